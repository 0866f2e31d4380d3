-- The lesser of two coefficients, with its terms divided by their greatest common divisor, is what it is called,
-- and there is no other one.
use Rattle.std.proofs.Common.{arith, w64, to_z, of_z, int_le}
use mathlib.Core.Path.{◌≡◌, sym, ap, subst, ◌∙◌}
use mathlib.Core.Logic.{◌⊎◌, inl, inr}
use mathlib.Core.Bool.{true, false}
use Prim.Native.Nat.{ℕ, zero, suc, ◌*◌, ◌/◌, ◌<◌, ◌≤◌}
use native.Mathlib.Nat.{mul-div_cancel', mul_comm}
use lib.IntN.{ℤ, pos, negsuc, ◌-ℤ◌, ◌*ℤ◌, nat_abs}
use Rattle.std.proofs.lemmas.Int.{ints}
use Rattle.stack_algebra.specs.Gcd.{gcd}
use Rattle.stack_algebra.specs.IntegerOrder.{◌≼◌, ◌≺◌}
use Rattle.stack_algebra.proofs.Integers.{sums, expand}
use Rattle.stack_algebra.proofs.Order.{mul_nonneg, nonneg-sub, sub-nonneg, nonneg-cancel}
use Rattle.stack_algebra.proofs.CommonDivisor.{gcd-left, gcd-right, gcd-pos, gcd-swap, gcd-quotients}
use Rattle.stack_frame.specs.declared.cone.Coefficient.{Coefficient}
use Rattle.stack_frame.specs.Directions.{IsLowest}
use Rattle.stack_frame.specs.Cones.{IsCoefficient, IsCone, IsAtMost, IsSameNumber, IsReduced, IsLesser, lowest}
use Rattle.stack_frame.specs.Cones.{CoefficientsHaveOneLesser}
use Rattle.stack_frame.proofs.LowestTerms.{gcd_of_lowest, lowest_of_gcd, one-numerator}

reduced : (p q g u v : ℕ) → 0 < g → g * u ≡ p → g * v ≡ q → p ≤ 1000 → 0 < q → q ≤ 1000 → gcd u v ≡ 1 →
    IsReduced (record { p = pos p; q = pos q }) (record { p = pos u; q = pos v })
reduced p q zero u v h e f l m n k = absurd (omega arith)
reduced p q (suc g) u v h e f l m n k =
    let less : u ≤ 1000 = grind arith in
    let some : 1 ≤ v = grind arith in
    let few : v ≤ 1000 = grind arith in
    record {
      in_limits = record {
        p_least = omega (arith, ints);
        p_greatest = omega (arith, ints);
        q_least = omega (arith, ints);
        q_greatest = omega (arith, ints);
      };
      same = ap pos (ap (λ n. u * n) (sym f) ∙ across u (suc g) v ∙ ap (λ n. n * v) e);
      lowest = lowest_of_gcd (pos u) (pos v) k;
    }
  where
    across : (u g v : ℕ) → u * (g * v) ≡ g * u * v
    across u g v = omega arith

pub lowest-is : (a : Coefficient) → IsCoefficient a → IsReduced a (lowest a)
lowest-is a h = subst (λ x. IsReduced x (lowest a)) whole
    (reduced p q (gcd p q) (p / gcd p q) (q / gcd p q) positive
    (mul-div_cancel' (gcd p q) (gcd-left p q)) (mul-div_cancel' (gcd p q) (gcd-right p q))
    (most a.p h.p_greatest h.p_least) some (most a.q h.q_greatest (least a.q h.q_least))
    (gcd-quotients p q positive))
  where
    p : ℕ
    p = nat_abs a.p

    q : ℕ
    q = nat_abs a.q

    most : (z : ℤ) → z ≼ pos 1000 → pos 0 ≼ z → nat_abs z ≤ 1000
    most z h k = omega (arith, ints)

    least : (z : ℤ) → pos 1 ≼ z → pos 0 ≼ z
    least z h = omega (arith, ints)

    at_least : (z : ℤ) → pos 1 ≼ z → 0 < nat_abs z
    at_least z h = omega (arith, ints)

    some : 0 < nat_abs a.q
    some = at_least a.q h.q_least

    positive : 0 < gcd p q
    positive = gcd-pos p q some

    natural : (z : ℤ) → pos 0 ≼ z → pos (nat_abs z) ≡ z
    natural z h = omega (arith, ints)

    whole : ◌≡◌ {A = Coefficient} (record { p = pos p; q = pos q }) a
    whole = λ i. record { p = natural a.p h.p_least i; q = natural a.q (least a.q h.q_least) i }

-- what is a coefficient in lowest terms is a cone's
pub lowest-cone : (a c : Coefficient) → IsCoefficient a → c ≡ lowest a → IsCone c
lowest-cone a c h e = let r = lowest-is a h in
    subst IsCone (sym e) (record { in_limits = r.in_limits; lowest = r.lowest })

-- the divisor of the code isn't 0
pub divisor-positive : (a : Coefficient) (p g : ℕ) → IsCoefficient a →
    g ≡ gcd p (nat_abs (to_z w64 (of_z w64 a.q))) → 0 < g
divisor-positive a p g h e = subst (λ n. 0 < n) (sym e)
    (gcd-pos p (nat_abs (to_z w64 (of_z w64 a.q))) (positive a.q h.q_least h.q_greatest))
  where
    positive : (z : ℤ) → pos 1 ≼ z → z ≼ pos 1000 → 0 < nat_abs (to_z w64 (of_z w64 z))
    positive z h k = omega (arith, ints)

-- where a is at most b, and b at most c, a is at most c
at_most_next : (a b c : Coefficient) → IsCoefficient a → IsCoefficient b → IsCoefficient c →
    IsAtMost a b → IsAtMost b c → IsAtMost a c
at_most_next a b c ha hb hc h k = cross a.p a.q b.p b.q c.p c.q ha.q_least hb.q_least hc.q_least h k
  where
    least : (z : ℤ) → pos 1 ≼ z → pos 0 ≼ z
    least z h = omega (arith, ints)

    positive : (z : ℤ) → pos 1 ≼ z → pos 0 ≺ z
    positive z h = omega (arith, ints)

    cross : (x y p q u v : ℤ) → pos 1 ≼ y → pos 1 ≼ q → pos 1 ≼ v → (x *ℤ q) ≼ (p *ℤ y) → (p *ℤ v) ≼ (u *ℤ q) →
        (x *ℤ v) ≼ (u *ℤ y)
    cross x y p q u v hy hq hv h k =
        let m = mul_nonneg v (p *ℤ y -ℤ x *ℤ q) (least v hv) (nonneg-sub (x *ℤ q) (p *ℤ y) h) in
        let n = mul_nonneg y (u *ℤ q -ℤ p *ℤ v) (least y hy) (nonneg-sub (p *ℤ v) (u *ℤ q) k) in
        sub-nonneg (x *ℤ v) (u *ℤ y) (nonneg-cancel q (u *ℤ y -ℤ x *ℤ v) (positive q hq)
        (simp expand (omega (arith, sums, simp expand at m, simp expand at n))))

-- equal coefficients are at most one another
at_most_same : (a b : Coefficient) → IsSameNumber a b → IsAtMost a b × IsAtMost b a
at_most_same a b e = by (a.p *ℤ b.q) (b.p *ℤ a.q) e
  where
    by : (x y : ℤ) → x ≡ y → (x ≼ y) × (y ≼ x)
    by x y e = omega (arith, ints)

pub lesser-first : (a b : Coefficient) → IsCoefficient a → IsCoefficient b → int_le (a.p *ℤ b.q) (b.p *ℤ a.q) ≡ true →
    IsLesser a b (lowest a)
lesser-first a b ha hb t = let r = lowest-is a ha in record {
  in_limits = r.in_limits;
  one = inl r.same;
  first = (at_most_same (lowest a) a r.same).0;
  second = at_most_next (lowest a) a b r.in_limits ha hb (at_most_same (lowest a) a r.same).0
      (is (a.p *ℤ b.q) (b.p *ℤ a.q) t);
  lowest = r.lowest;
}
  where
    is : (x y : ℤ) → int_le x y ≡ true → x ≼ y
    is x y e = grind (arith, ints)

pub lesser-second : (a b : Coefficient) → IsCoefficient a → IsCoefficient b → int_le (a.p *ℤ b.q) (b.p *ℤ a.q) ≡ false →
    IsLesser a b (lowest b)
lesser-second a b ha hb t = let r = lowest-is b hb in record {
  in_limits = r.in_limits;
  one = inr r.same;
  first = at_most_next (lowest b) b a r.in_limits hb ha (at_most_same (lowest b) b r.same).0
      (is (a.p *ℤ b.q) (b.p *ℤ a.q) t);
  second = (at_most_same (lowest b) b r.same).0;
  lowest = r.lowest;
}
  where
    is : (x y : ℤ) → int_le x y ≡ false → y ≼ x
    is x y e = grind (arith, ints)

-- a lesser is at most another one, which is the same number as a or b
at_most_lesser : (a b c d : Coefficient) → IsCoefficient a → IsCoefficient b →
    IsLesser a b c → IsLesser a b d → IsAtMost c d
at_most_lesser a b c d ha hb h k = go k.one
  where
    go : IsSameNumber d a ⊎ IsSameNumber d b → IsAtMost c d
    go (inl e) = at_most_next c a d h.in_limits ha k.in_limits h.first (at_most_same d a e).1
    go (inr e) = at_most_next c b d h.in_limits hb k.in_limits h.second (at_most_same d b e).1

-- equal fractions in lowest terms have the same terms
one-fraction : (x y u v : ℤ) → pos 0 ≼ x → pos 0 ≼ y → pos 0 ≼ u → pos 0 ≼ v → IsLowest x y → IsLowest u v →
    x *ℤ v ≡ u *ℤ y → (x ≡ u) × (y ≡ v)
one-fraction (pos x) (pos y) (pos u) (pos v) hx hy hu hv h k e =
    let one = gcd_of_lowest (pos x) (pos y) h in
    let two = gcd_of_lowest (pos u) (pos v) k in
    let n : x * v ≡ u * y = ap nat_abs e in (
      ap pos (one-numerator x y u v one two (n ∙ mul_comm u y)),
      ap pos (one-numerator y x v u (gcd-swap y x ∙ one) (gcd-swap v u ∙ two) (mul_comm y u ∙ sym n)),
    )
one-fraction (negsuc x) y u v hx hy hu hv h k e = absurd (omega (arith, ints))
one-fraction (pos x) (negsuc y) u v hx hy hu hv h k e = absurd (omega (arith, ints))
one-fraction (pos x) (pos y) (negsuc u) v hx hy hu hv h k e = absurd (omega (arith, ints))
one-fraction (pos x) (pos y) (pos u) (negsuc v) hx hy hu hv h k e = absurd (omega (arith, ints))

pub one-lesser : CoefficientsHaveOneLesser
one-lesser a b c d ha hb h k = λ i. record { p = both.0 i; q = both.1 i }
  where
    least : (z : ℤ) → pos 1 ≼ z → pos 0 ≼ z
    least z h = omega (arith, ints)

    equal : (x y : ℤ) → x ≼ y → y ≼ x → x ≡ y
    equal x y h k = omega (arith, ints)

    both : (c.p ≡ d.p) × (c.q ≡ d.q)
    both = one-fraction c.p c.q d.p d.q h.in_limits.p_least (least c.q h.in_limits.q_least) k.in_limits.p_least
        (least d.q k.in_limits.q_least) h.lowest k.lowest
        (equal (c.p *ℤ d.q) (d.p *ℤ c.q) (at_most_lesser a b c d ha hb h k) (at_most_lesser a b d c ha hb k h))
