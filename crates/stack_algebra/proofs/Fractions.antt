-- Fractions in lowest terms: when two are the same, and their laws.
use mathlib.Core.Path.{◌≡◌, refl, sym, ap, subst, ◌∙◌}
use mathlib.Core.HLevel.{is_prop→PathP}
use Prim.Native.Nat.{ℕ, zero, suc, ◌*◌, ◌/◌, ◌<◌, ◌∣◌}
use native.Mathlib.Omega.{arith}
use native.Mathlib.Nat.{mul-div_cancel', dvd_antisymm, dvd-mul_left, ℕ_set, zero-mul}
use native.Mathlib.Bridge.{le_prop}
use lib.IntN.{ℤ, pos, negsuc, ◌+ℤ◌, ◌*ℤ◌, neg_ℤ, nat_abs, *ℤ_comm}
use Rattle.std.proofs.lemmas.Int.{ints, unsigned_abs-mul}
use Rattle.stack_algebra.proofs.Order.{◌≺◌, mul_pos}
use Rattle.stack_algebra.proofs.Ring.{Ring, Exp, ring2, ring4, ring6, num, ◌⊕◌, ◌⊗◌}
use Rattle.stack_algebra.proofs.IntegerRing.{integers}
use Rattle.stack_algebra.specs.Gcd.{gcd}
pub use Rattle.stack_algebra.specs.Fraction.{Fraction, IsOver}
use Rattle.stack_algebra.specs.Fraction.{signed, low_num, low_den}
use Rattle.stack_algebra.proofs.CommonDivisor.{gcd-left, gcd-right, gcd-quotients, gcd-pos, dvd_of_gcd-one}
use Rattle.stack_algebra.proofs.CrossProducts.{cancel, cross_same, cross_sum, cross_product}

same_parts : (x y : Fraction) → x.num ≡ y.num → x.den ≡ y.den → x ≡ y
same_parts x y p q = λ i. record {
  num = p i;
  den = q i;
  positive = is_prop→PathP (λ i. 0 < q i) (λ i. le_prop {n = 1} {m = q i}) x.positive y.positive i;
  lowest = is_prop→PathP (λ i. gcd (nat_abs (p i)) (q i) ≡ 1) (λ i. ℕ_set (gcd (nat_abs (p i)) (q i)) 1)
      x.lowest y.lowest i;
}

pub abs_signed : (z : ℤ) (n : ℕ) → nat_abs (signed z n) ≡ n
abs_signed (pos z) n = refl
abs_signed (negsuc z) zero = refl
abs_signed (negsuc z) (suc n) = refl

pub low_den-pos : (z : ℤ) (d : ℕ) → 0 < d → 0 < low_den z d
low_den-pos z d h = go (low_den z d) (mul-div_cancel' (gcd (nat_abs z) d) (gcd-right (nat_abs z) d))
  where
    go : (n : ℕ) → gcd (nat_abs z) d * n ≡ d → 0 < n
    go zero e = omega arith
    go (suc n) e = omega arith

unfoldable pub reduce : (z : ℤ) (d : ℕ) → 0 < d → Fraction
reduce z d h = record {
  num = low_num z d;
  den = low_den z d;
  positive = low_den-pos z d h;
  lowest = ap (λ n. gcd n (low_den z d)) (abs_signed z (nat_abs z / gcd (nat_abs z) d))
      ∙ gcd-quotients (nat_abs z) d (gcd-pos (nat_abs z) d h);
}

scaled_same : (z : ℤ) (d a e : ℕ) → a * d ≡ nat_abs z * e → signed z a *ℤ pos d ≡ z *ℤ pos e
scaled_same (pos z) d a e h = ap pos h
scaled_same (negsuc z) d zero e h = ap pos (zero-mul d) ∙ ap (λ (n : ℕ). neg_ℤ (pos n)) (sym (zero-mul d) ∙ h)
scaled_same (negsuc z) d (suc a) e h = ap (λ (n : ℕ). neg_ℤ (pos n)) h

pub reduce-is : (z : ℤ) (d : ℕ) (h : 0 < d) → (reduce z d h).num *ℤ pos d ≡ z *ℤ pos (reduce z d h).den
unfolding reduce
reduce-is z d h = scaled_same z d (nat_abs z / gcd (nat_abs z) d) (d / gcd (nat_abs z) d)
    (go (gcd (nat_abs z) d) (nat_abs z) d (nat_abs z / gcd (nat_abs z) d) (d / gcd (nat_abs z) d)
    (mul-div_cancel' _ (gcd-left (nat_abs z) d)) (mul-div_cancel' _ (gcd-right (nat_abs z) d)))
  where
    go : (g n d a e : ℕ) → g * a ≡ n → g * e ≡ d → a * d ≡ n * e
    go g n d a e p q = omega (arith, ap (λ t. t * e) p, ap (λ t. a * t) q)

pub den_pos : (x : Fraction) → pos 0 ≺ pos x.den
den_pos x = omega (arith, ints, x.positive)

pub is_self : (x : Fraction) → IsOver x x.num (pos x.den)
is_self x = record { positive = den_pos x; cross = refl }

pub reduce_is : (z : ℤ) (d : ℕ) (h : 0 < d) → IsOver (reduce z d h) z (pos d)
reduce_is z d h = record { positive = omega (arith, ints); cross = reduce-is z d h }

pub same_from_cross : (x y : Fraction) → x.num *ℤ pos y.den ≡ y.num *ℤ pos x.den → x ≡ y
same_from_cross x y e = same_parts x y
    (cancel (pos x.den) x.num y.num (den_pos x)
    (*ℤ_comm (pos x.den) x.num ∙ ap (λ t. x.num *ℤ pos t) dens ∙ e ∙ *ℤ_comm y.num (pos x.den))) dens
  where
    sizes : nat_abs x.num * y.den ≡ nat_abs y.num * x.den
    sizes = sym (unsigned_abs-mul x.num (pos y.den)) ∙ ap nat_abs e ∙ unsigned_abs-mul y.num (pos x.den)

    dens : x.den ≡ y.den
    dens = dvd_antisymm
        (dvd_of_gcd-one (nat_abs x.num) x.den y.den x.lowest
        (subst (λ t. x.den ∣ t) (sym sizes) (dvd-mul_left x.den (nat_abs y.num))))
        (dvd_of_gcd-one (nat_abs y.num) y.den x.den y.lowest
        (subst (λ t. y.den ∣ t) sizes (dvd-mul_left y.den (nat_abs x.num))))

-- two fractions with equal values are the same
pub same_values : (x y : Fraction) (n p m q : ℤ) → IsOver x n p → IsOver y m q → n *ℤ q ≡ m *ℤ p → x ≡ y
same_values x y n p m q i j e = same_from_cross x y
    (cross_same x.num (pos x.den) y.num (pos y.den) n p m q (mul_pos p q i.positive j.positive)
    i.cross j.cross e)

times_pos : (a b : ℕ) → 0 < a → 0 < b → 0 < a * b
times_pos (suc a) (suc b) h k = omega arith
times_pos zero b h k = absurd (omega arith)
times_pos (suc a) zero h k = absurd (omega arith)

pub add : Fraction → Fraction → Fraction
add x y = reduce (x.num *ℤ pos y.den +ℤ y.num *ℤ pos x.den) (x.den * y.den)
    (times_pos x.den y.den x.positive y.positive)

pub mul : Fraction → Fraction → Fraction
mul x y = reduce (x.num *ℤ y.num) (x.den * y.den) (times_pos x.den y.den x.positive y.positive)

pub of : ℤ → Fraction
of k = reduce k 1 (omega arith)

pub neg : Fraction → Fraction
neg x = reduce (neg_ℤ x.num) x.den x.positive

pub add-is : (x y : Fraction) (n p m q : ℤ) → IsOver x n p → IsOver y m q →
    IsOver (add x y) (n *ℤ q +ℤ m *ℤ p) (p *ℤ q)
unfolding add
add-is x y n p m q i j = record {
  positive = mul_pos p q i.positive j.positive;
  cross = cross_sum x.num (pos x.den) y.num (pos y.den) n p m q (add x y).num (pos (add x y).den)
      (mul_pos _ _ (den_pos x) (den_pos y)) i.cross j.cross (reduce_is _ _ _).cross;
}

pub mul-is : (x y : Fraction) (n p m q : ℤ) → IsOver x n p → IsOver y m q → IsOver (mul x y) (n *ℤ m) (p *ℤ q)
unfolding mul
mul-is x y n p m q i j = record {
  positive = mul_pos p q i.positive j.positive;
  cross = cross_product x.num (pos x.den) y.num (pos y.den) n p m q (mul x y).num (pos (mul x y).den)
      (mul_pos _ _ (den_pos x) (den_pos y)) i.cross j.cross (reduce_is _ _ _).cross;
}

pub of-is : (k : ℤ) → IsOver (of k) k (pos 1)
unfolding of
of-is k = reduce_is k 1 (omega arith)

pub neg_own : (x : Fraction) → IsOver (neg x) (neg_ℤ x.num) (pos x.den)
unfolding neg
neg_own x = reduce_is (neg_ℤ x.num) x.den x.positive

-- the laws of a ring, one after the other
pub add_comm : (x y : Fraction) → add x y ≡ add y x
add_comm x y = same_values _ _ _ _ _ _ (add-is x y _ _ _ _ (is_self x) (is_self y))
    (add-is y x _ _ _ _ (is_self y) (is_self x))
    (ring4 integers (λ a b c d. ((a ⊗ d ⊕ c ⊗ b) ⊗ (d ⊗ b), (c ⊗ b ⊕ a ⊗ d) ⊗ (b ⊗ d))) refl x.num (pos x.den)
    y.num (pos y.den))

pub add_assoc : (x y z : Fraction) → add (add x y) z ≡ add x (add y z)
add_assoc x y z = same_values _ _ _ _ _ _
    (add-is _ z _ _ _ _ (add-is x y _ _ _ _ (is_self x) (is_self y)) (is_self z))
    (add-is x _ _ _ _ _ (is_self x) (add-is y z _ _ _ _ (is_self y) (is_self z)))
    (ring6 integers (λ a b c d e f. (
      ((a ⊗ d ⊕ c ⊗ b) ⊗ f ⊕ e ⊗ (b ⊗ d)) ⊗ (b ⊗ (d ⊗ f)),
      (a ⊗ (d ⊗ f) ⊕ (c ⊗ f ⊕ e ⊗ d) ⊗ b) ⊗ (b ⊗ d ⊗ f),
    )) refl x.num (pos x.den) y.num (pos y.den) z.num
    (pos z.den))

pub mul_comm : (x y : Fraction) → mul x y ≡ mul y x
mul_comm x y = same_values _ _ _ _ _ _ (mul-is x y _ _ _ _ (is_self x) (is_self y))
    (mul-is y x _ _ _ _ (is_self y) (is_self x))
    (ring4 integers (λ a b c d. ((a ⊗ c) ⊗ (d ⊗ b), (c ⊗ a) ⊗ (b ⊗ d))) refl x.num (pos x.den) y.num
    (pos y.den))

pub mul_assoc : (x y z : Fraction) → mul (mul x y) z ≡ mul x (mul y z)
mul_assoc x y z = same_values _ _ _ _ _ _
    (mul-is _ z _ _ _ _ (mul-is x y _ _ _ _ (is_self x) (is_self y)) (is_self z))
    (mul-is x _ _ _ _ _ (is_self x) (mul-is y z _ _ _ _ (is_self y) (is_self z)))
    (ring6 integers (λ a b c d e f. ((a ⊗ c ⊗ e) ⊗ (b ⊗ (d ⊗ f)), (a ⊗ (c ⊗ e)) ⊗ (b ⊗ d ⊗ f))) refl x.num
    (pos x.den) y.num (pos y.den) z.num (pos z.den))

pub add_mul : (x y z : Fraction) → mul (add x y) z ≡ add (mul x z) (mul y z)
add_mul x y z = same_values _ _ _ _ _ _
    (mul-is _ z _ _ _ _ (add-is x y _ _ _ _ (is_self x) (is_self y)) (is_self z))
    (add-is _ _ _ _ _ _ (mul-is x z _ _ _ _ (is_self x) (is_self z))
    (mul-is y z _ _ _ _ (is_self y) (is_self z)))
    (ring6 integers (λ a b c d e f. (
      ((a ⊗ d ⊕ c ⊗ b) ⊗ e) ⊗ ((b ⊗ f) ⊗ (d ⊗ f)),
      ((a ⊗ e) ⊗ (d ⊗ f) ⊕ (c ⊗ e) ⊗ (b ⊗ f)) ⊗ ((b ⊗ d) ⊗ f),
    )) refl x.num (pos x.den) y.num (pos y.den)
    z.num (pos z.den))

pub zero_add : (x : Fraction) → add (of (pos 0)) x ≡ x
zero_add x = same_values _ _ _ _ _ _ (add-is _ x _ _ _ _ (of-is (pos 0)) (is_self x)) (is_self x)
    (ring2 integers (λ a b. ((num (pos 0) ⊗ b ⊕ a ⊗ num (pos 1)) ⊗ b, a ⊗ (num (pos 1) ⊗ b))) refl x.num
    (pos x.den))

pub one_mul : (x : Fraction) → mul (of (pos 1)) x ≡ x
one_mul x = same_values _ _ _ _ _ _ (mul-is _ x _ _ _ _ (of-is (pos 1)) (is_self x)) (is_self x)
    (ring2 integers (λ a b. ((num (pos 1) ⊗ a) ⊗ b, a ⊗ (num (pos 1) ⊗ b))) refl x.num (pos x.den))

pub zero_mul : (x : Fraction) → mul (of (pos 0)) x ≡ of (pos 0)
zero_mul x = same_values _ _ _ _ _ _ (mul-is _ x _ _ _ _ (of-is (pos 0)) (is_self x)) (of-is (pos 0))
    (ring2 integers (λ a b. ((num (pos 0) ⊗ a) ⊗ num (pos 1), num (pos 0) ⊗ (num (pos 1) ⊗ b))) refl x.num
    (pos x.den))

pub neg_is : (x : Fraction) → neg x ≡ mul (of (negsuc 0)) x
neg_is x = same_values _ _ _ _ _ _ (neg_own x) (mul-is _ x _ _ _ _ (of-is (negsuc 0)) (is_self x))
    (ring2 integers (λ a b. ((Exp.neg a) ⊗ (num (pos 1) ⊗ b), (num (negsuc 0) ⊗ a) ⊗ b)) refl x.num
    (pos x.den))

pub of_add : (k l : ℤ) → of (k +ℤ l) ≡ add (of k) (of l)
of_add k l = same_values _ _ _ _ _ _ (of-is (k +ℤ l)) (add-is _ _ _ _ _ _ (of-is k) (of-is l))
    (ring2 integers (λ a b. (
      (a ⊕ b) ⊗ (num (pos 1) ⊗ num (pos 1)),
      (a ⊗ num (pos 1) ⊕ b ⊗ num (pos 1)) ⊗ num (pos 1),
    )) refl k l)

pub of_mul : (k l : ℤ) → of (k *ℤ l) ≡ mul (of k) (of l)
of_mul k l = same_values _ _ _ _ _ _ (of-is (k *ℤ l)) (mul-is _ _ _ _ _ _ (of-is k) (of-is l))
    (ring2 integers (λ a b. ((a ⊗ b) ⊗ (num (pos 1) ⊗ num (pos 1)), (a ⊗ b) ⊗ num (pos 1))) refl k l)

abbrev pub fractions : Ring
fractions = record {
  C = Fraction;
  of = of;
  add = add;
  mul = mul;
  neg = neg;
  add_assoc = add_assoc;
  add_comm = add_comm;
  zero_add = zero_add;
  mul_assoc = mul_assoc;
  mul_comm = mul_comm;
  one_mul = one_mul;
  zero_mul = zero_mul;
  add_mul = add_mul;
  neg_is = neg_is;
  of_add = of_add;
  of_mul = of_mul;
}
