-- A numerator over a denominator, as a fraction.
use mathlib.Core.Path.{◌≡◌, refl, ap, ◌∙◌}
use Prim.Native.Nat.{ℕ, zero, suc, ◌<◌, ◌/◌}
use lib.Signed.{quot_z}
use Rattle.std.specs.Int.{IsGcd}
use Rattle.std.proofs.lemmas.Nat.Gcd.{same_from_IsGcd}
use Rattle.stack_algebra.proofs.CommonDivisor.{gcd-is}
use native.Mathlib.Omega.{arith}
use Rattle.std.specs.Coded.{Coded, code_by, coded×, coded_ℤ, coded_ℕ}
use lib.IntN.{ℤ, pos, negsuc, ◌+ℤ◌, ◌*ℤ◌, nat_abs}
use Rattle.std.proofs.lemmas.Int.{ints}
use Rattle.stack_algebra.proofs.Integers.{expand, sums}
use Rattle.stack_algebra.proofs.Order.{◌≺◌, mul_pos}
use Rattle.stack_algebra.specs.Gcd.{gcd}
use Rattle.stack_algebra.specs.Fraction.{Fraction, signed, low_num, low_den}
use Rattle.stack_algebra.proofs.Fractions.{IsOver, is_self, reduce, reduce_is, same_values, of, of-is, add}
use Rattle.stack_algebra.proofs.Fractions.{add-is}

-- z over d in lowest terms; 0 where the denominator is not positive
pub over : ℤ → ℤ → Fraction
over z (pos zero) = of (pos 0)
over z (pos (suc d)) = reduce z (suc d) (omega arith)
over z (negsuc d) = of (pos 0)

pub over-is : (z d : ℤ) → pos 0 ≺ d → IsOver (over z d) z d
unfolding over
over-is z (pos zero) h = absurd (omega (arith, ints))
over-is z (pos (suc d)) h = reduce_is z (suc d) (omega arith)
over-is z (negsuc d) h = absurd (omega (arith, ints))

pub over-parts : (z d : ℤ) → pos 0 ≺ d →
    ((over z d).num ≡ low_num z (nat_abs d)) × ((over z d).den ≡ low_den z (nat_abs d))
unfolding over reduce
over-parts z (pos zero) h = absurd (omega (arith, ints))
over-parts z (pos (suc d)) h = (refl, refl)
over-parts z (negsuc d) h = absurd (omega (arith, ints))

pub record IsLowest (z d : ℤ) : Type 0 where
  pub positive : pos 0 ≺ d
  pub lowest : gcd (nat_abs z) (nat_abs d) ≡ 1

pub over-lowest : (z d : ℤ) → IsLowest z d → ((over z d).num ≡ z) × (pos (over z d).den ≡ d)
over-lowest z (pos d) h = go h.lowest (omega (arith, ints, h.positive))
  where
    go : gcd (nat_abs z) d ≡ 1 → 0 < d → ((over z (pos d)).num ≡ z) × (pos (over z (pos d)).den ≡ pos d)
    go l p = let x : Fraction = record { num = z; den = d; positive = p; lowest = l } in
        let e = same_values (over z (pos d)) x z (pos d) z (pos d) (over-is z (pos d) h.positive) (is_self x)
        refl in
        (ap (λ (y : Fraction). y.num) e, ap (λ (y : Fraction). pos y.den) e)
over-lowest z (negsuc d) h = absurd (omega (arith, ints, h.positive))

pub lowest-over : (x : Fraction) → IsLowest x.num (pos x.den)
lowest-over x = record { positive = omega (arith, ints, x.positive); lowest = x.lowest }

pub over_own : (x : Fraction) → over x.num (pos x.den) ≡ x
over_own x = same_values _ _ _ _ _ _ (over-is x.num (pos x.den) (omega (arith, ints, x.positive))) (is_self x)
    refl

pub of-over : (k : ℤ) → over k (pos 1) ≡ of k
of-over k = same_values _ _ k (pos 1) k (pos 1) (over-is k (pos 1) (omega (arith, ints))) (of-is k) refl

-- the parts of z over d are the quotients by their divisor
pub over-quotients : (z : ℤ) (d g : ℕ) → 0 < d → IsGcd (nat_abs z) d g →
    ((over z (pos d)).num ≡ quot_z z (pos g)) × ((over z (pos d)).den ≡ d / g)
over-quotients z d g h is = (
  parts.0 ∙ ap (λ n. signed z (nat_abs z / n)) e ∙ signed-quot z g,
  parts.1
      ∙ ap (λ n. d / n) e,
)
  where
    parts : ((over z (pos d)).num ≡ low_num z d) × ((over z (pos d)).den ≡ low_den z d)
    parts = over-parts z (pos d) (omega (arith, ints))

    e : gcd (nat_abs z) d ≡ g
    e = same_from_IsGcd (nat_abs z) d (gcd (nat_abs z) d) g (gcd-is (nat_abs z) d) is

    signed-quot : (z : ℤ) (g : ℕ) → signed z (nat_abs z / g) ≡ quot_z z (pos g)
    signed-quot (pos a) g = refl
    signed-quot (negsuc a) g = refl

-- a fraction is stored as its two parts
abbrev pub frac_code : Coded Fraction
frac_code = code_by (ℤ × ℕ) (coded× coded_ℤ coded_ℕ) (λ x. (x.num, x.den)) (λ p. over p.0 (pos p.1)) over_own

-- the sum of two fractions over a common denominator: b and e are g times b' and g times e'
sum_cross : (a c g b e : ℤ) → (a *ℤ (g *ℤ e) +ℤ c *ℤ (g *ℤ b)) *ℤ (g *ℤ b *ℤ e)
    ≡ (a *ℤ e +ℤ c *ℤ b) *ℤ (g *ℤ b *ℤ (g *ℤ e))
sum_cross a c g b e = simp expand (omega (arith, sums))

pub add-common : (a b c e g : ℤ) → pos 0 ≺ g → pos 0 ≺ b → pos 0 ≺ e → add (over a (g *ℤ b)) (over c (g *ℤ e))
    ≡ over (a *ℤ e +ℤ c *ℤ b) (g *ℤ b *ℤ e)
add-common a b c e g hg hb he = same_values _ _ _ _ _ _
    (add-is _ _ _ _ _ _ (over-is a (g *ℤ b) (mul_pos g b hg hb)) (over-is c (g *ℤ e) (mul_pos g e hg he)))
    (over-is (a *ℤ e +ℤ c *ℤ b) (g *ℤ b *ℤ e) (mul_pos (g *ℤ b) e (mul_pos g b hg hb) he))
    (sum_cross a c g b e)
