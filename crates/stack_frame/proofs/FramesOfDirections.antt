-- A direction divided by the greatest common divisor of its parts is its frame, and it has no other one.
use Rattle.std.proofs.Common.{arith, w64, SFits, to_z, of_z}
use mathlib.Core.Path.{◌≡◌, sym, ap, subst, ◌∙◌}
use mathlib.Core.Logic.{◌≢◌, ◌⊎◌, inl, inr}
use Prim.Native.Nat.{ℕ, zero, suc, ◌*◌, ◌<◌, ◌≤◌, ◌∣◌}
use native.Mathlib.Nat.{dvd_antisymm, dvd-mul_right, le_of_dvd, pos_of_dvd_of_pos}
use lib.IntN.{ℤ, pos, negsuc, ◌*ℤ◌, nat_abs}
use lib.Signed.{quot_z}
use mir.Facts.{to_z-of_z, to_z_pos}
use Rattle.std.proofs.lemmas.Int.{ints, quot_fits}
use Rattle.stack_algebra.specs.Gcd.{gcd}
use Rattle.stack_algebra.specs.IntegerOrder.{◌≺◌}
use Rattle.stack_algebra.proofs.CommonDivisor.{gcd-left, gcd-right}
use Rattle.stack_algebra.proofs.CrossProducts.{cancel}
use Rattle.stack_frame.specs.declared.frame.Frame.{Frame}
use Rattle.stack_polygon.specs.Sizes.{IsStep}
use Rattle.stack_frame.specs.Directions.{IsGreatestDivisor, IsFrameOf, DirectionsHaveOneFrame}
use Rattle.stack_frame.proofs.LowestTerms.{gcd_of_lowest, lowest_of_gcd, abs-times, quotient-whole, divides-times}
use Rattle.stack_frame.proofs.LowestTerms.{lowest-parts}

-- the quotient that the code makes is the quotient
pub quotient-stored : (z : ℤ) (g : ℕ) → SFits w64 z → 0 < g → g ≤ 2000000 → g ∣ nat_abs z →
    z ≡ pos g *ℤ to_z w64 (of_z w64 (quot_z (to_z w64 (of_z w64 z)) (to_z w64 g)))
quotient-stored z g fits p l d = quotient-whole z g p d ∙ ap (λ q. pos g *ℤ q)
    (sym ((λ i. to_z w64 (of_z w64 (quot_z (to_z-of_z fits i) (to_z_pos w64 {n = g} (omega arith) i))))
    ∙ to_z-of_z (quot_fits w64 z (pos g) fits (omega (arith, ints, p)))))

abbrev pub stored : ℤ → ℤ
stored z = to_z w64 (of_z w64 z)

pub divisor-of : (dx dy : ℤ) (a b g : ℕ) → SFits w64 dx → SFits w64 dy → IsStep dx → IsStep dy →
    (dx ≢ pos 0) ⊎ (dy ≢ pos 0) → a ≡ nat_abs (stored dx) → b ≡ nat_abs (stored dy) → g ≡ gcd a b →
    IsGreatestDivisor dx dy g
divisor-of dx dy a b g fx fy hx hy some ea eb e = record {
  positive = size.0;
  limit = size.1;
  left = subst (λ n. g ∣ n) one left;
  right = subst (λ n. g ∣ n) two right;
  greatest = sym (e ∙ (λ i. gcd (one i) (two i)));
}
  where
    one : a ≡ nat_abs dx
    one = ea ∙ ap nat_abs (to_z-of_z fx)

    two : b ≡ nat_abs dy
    two = eb ∙ ap nat_abs (to_z-of_z fy)

    left : g ∣ a
    left = subst (λ n. n ∣ a) (sym e) (gcd-left a b)

    right : g ∣ b
    right = subst (λ n. n ∣ b) (sym e) (gcd-right a b)

    positive : (z : ℤ) → z ≢ pos 0 → 0 < nat_abs z
    positive (pos zero) n = absurd (n (λ i. pos zero))
    positive (pos (suc k)) n = omega arith
    positive (negsuc k) n = omega arith

    small : (z : ℤ) → IsStep z → nat_abs z ≤ 2000000
    small z h = omega (arith, ints)

    by : (z : ℤ) → IsStep z → z ≢ pos 0 → g ∣ nat_abs z → (0 < g) × (g ≤ 2000000)
    by z h n d = let p = positive z n in let l = le_of_dvd p d in let s = small z h in
        (pos_of_dvd_of_pos d p, omega arith)

    both : (dx ≢ pos 0) ⊎ (dy ≢ pos 0) → (0 < g) × (g ≤ 2000000)
    both (inl n) = by dx hx n (subst (λ n. g ∣ n) one left)
    both (inr n) = by dy hy n (subst (λ n. g ∣ n) two right)

    size : (0 < g) × (g ≤ 2000000)
    size = both some

pub divisor-at : (dx dy : ℤ) (g : ℕ) → SFits w64 dx → SFits w64 dy → IsGreatestDivisor (stored dx) (stored dy) g →
    IsGreatestDivisor dx dy g
divisor-at dx dy g fx fy h = subst (λ z. z) (λ i. IsGreatestDivisor (to_z-of_z fx i) (to_z-of_z fy i) g) h

pub frame-is : (dx dy : ℤ) (t : Frame) (g : ℕ) → 0 < g → gcd (nat_abs dx) (nat_abs dy) ≡ g →
    dx ≡ pos g *ℤ t.tx → dy ≡ pos g *ℤ t.ty → IsFrameOf dx dy t
frame-is dx dy t g p e ex ey = record {
  times = g;
  positive = p;
  x = ex;
  y = ey;
  lowest = lowest_of_gcd t.tx t.ty (lowest-parts g (nat_abs t.tx) (nat_abs t.ty) p
      (sym (λ i. gcd (part dx t.tx ex i) (part dy t.ty ey i)) ∙ e));
}
  where
    part : (d z : ℤ) → d ≡ pos g *ℤ z → nat_abs d ≡ g * nat_abs z
    part d z e = ap nat_abs e ∙ abs-times g z

-- a part is no greater than what it is a part of
pub part-step : (d z : ℤ) (g : ℕ) → 0 < g → d ≡ pos g *ℤ z → IsStep d → IsStep z
part-step d z zero p e h = absurd (omega arith)
part-step d z (suc g) p e h = go z (ap nat_abs e ∙ abs-times (suc g) z) (small d h)
  where
    small : (z : ℤ) → IsStep z → nat_abs z ≤ 2000000
    small z h = omega (arith, ints)

    go : (z : ℤ) → nat_abs d ≡ suc g * nat_abs z → nat_abs d ≤ 2000000 → IsStep z
    go z e l = let k : nat_abs z ≤ 2000000 = grind arith in
        record { low = omega (arith, ints); high = omega (arith, ints) }

-- a quotient of the code is no greater than what it is a part of
pub part-of : (d z : ℤ) (g : ℕ) → SFits w64 d → SFits w64 z → stored d ≡ pos g *ℤ z → d ≡ pos g *ℤ stored z
part-of d z g fd fz e = sym (to_z-of_z fd) ∙ e ∙ ap (λ q. pos g *ℤ q) (sym (to_z-of_z fz))

-- of two frames of one direction, the multiplier of the first divides that of the second
times-divides : (dx dy : ℤ) (t u : Frame) (a : IsFrameOf dx dy t) (b : IsFrameOf dx dy u) → a.times ∣ b.times
times-divides dx dy t u a b = divides-times b.times a.times (nat_abs u.tx) (nat_abs u.ty)
    (gcd_of_lowest u.tx u.ty b.lowest) (part dx t.tx u.tx a.x b.x) (part dy t.ty u.ty a.y b.y)
  where
    part : (d z v : ℤ) → d ≡ pos a.times *ℤ z → d ≡ pos b.times *ℤ v → a.times ∣ b.times * nat_abs v
    part d z v e f = subst (λ n. a.times ∣ n)
        (sym (abs-times a.times z) ∙ ap nat_abs (sym e ∙ f) ∙ abs-times b.times v)
        (dvd-mul_right a.times (nat_abs z))

pub one-frame : DirectionsHaveOneFrame
one-frame dx dy t u a b = λ i. record { tx = by dx t.tx u.tx a.x b.x i; ty = by dy t.ty u.ty a.y b.y i }
  where
    same : a.times ≡ b.times
    same = dvd_antisymm (times-divides dx dy t u a b) (times-divides dx dy u t b a)

    positive : (g : ℕ) → 0 < g → pos 0 ≺ pos g
    positive g h = omega (arith, ints)

    by : (d z v : ℤ) → d ≡ pos a.times *ℤ z → d ≡ pos b.times *ℤ v → z ≡ v
    by d z v e f = cancel (pos a.times) z v (positive a.times a.positive)
        (sym e ∙ f ∙ ap (λ n. pos n *ℤ v) (sym same))
