-- Signs, and what the search for a separating edge learns at each corner.
use Rattle.std.proofs.Common.{IsTrue, arith, w32, to_z, of_z}
use mathlib.Core.Path.{◌≡◌, refl, sym, ap, subst}
use Prim.Native.Nat.{zero, suc}
use lib.IntN.{ℤ, pos, negsuc}
use lib.Signed.{lt_z}
use Rattle.stack_algebra.proofs.Integers.{sums}
use Rattle.stack_algebra.proofs.Order.{◌≼◌, ◌≺◌}
use Rattle.std.proofs.lemmas.Int.{ints}
use Rattle.stack_polygon.specs.declared.point.Point.{Point}
use Rattle.stack_algebra.specs.IntegerOrder.{signum}

sign-code : (z : ℤ) → (IsTrue (lt_z (pos 0) (to_z w32 (of_z w32 (signum z)))) → pos 0 ≺ z) ×
    (pos 0 ≺ z → IsTrue (lt_z (pos 0) (to_z w32 (of_z w32 (signum z)))))
sign-code (pos zero) = (λ h. absurd (cc h), λ h. absurd (omega (arith, ints, h)))
sign-code (pos (suc n)) = (λ h. omega (arith, ints), λ h. refl)
sign-code (negsuc n) = (λ h. absurd (cc h), λ h. absurd (omega (arith, ints, h)))

-- a sign is positive where its number is
pub sign-positive : (z r : ℤ) → r ≡ signum z → (IsTrue (lt_z (pos 0) (to_z w32 (of_z w32 r))) → pos 0 ≺ z) ×
    (pos 0 ≺ z → IsTrue (lt_z (pos 0) (to_z w32 (of_z w32 r))))
sign-positive z r e = let s = sign-code z in (
  λ h. s.0 (subst (λ x. IsTrue (lt_z (pos 0) (to_z w32 (of_z w32 x)))) e h),
  λ h. subst
      (λ x. IsTrue (lt_z (pos 0) (to_z w32 (of_z w32 x)))) (sym e) (s.1 h),
)

pub left-and-not : (f : Point → ℤ) (c d : Point) → d ≡ c → pos 0 ≺ f d → f c ≼ pos 0 → ⊥
left-and-not f c d e h k = both (ap f e) h k
  where
    both : {x y : ℤ} → x ≡ y → pos 0 ≺ x → y ≼ pos 0 → ⊥
    both e h k = omega (arith, sums)

pub not-left : (f : Point → ℤ) (c d : Point) → d ≡ c → ¬ (pos 0 ≺ f d) → f c ≼ pos 0
not-left f c d e h = other (f c) (λ l. h (subst (λ z. pos 0 ≺ z) (sym (ap f e)) l))
  where
    other : (y : ℤ) → ¬ (pos 0 ≺ y) → y ≼ pos 0
    other (pos zero) h = omega (arith, ints)
    other (pos (suc n)) h = absurd (h (omega (arith, ints)))
    other (negsuc n) h = omega (arith, ints)
