-- Zeros and equal denominators, which need no common divisor.
use Rattle.std.proofs.Common.{◌≡◌, sym, ap, subst, subst₂, ◌∙◌, ℕ, ◌/◌, ◌<◌, ◌≤◌, div-one, arith, ℤ, pos, nat_abs, ◌+ℤ◌}
use Rattle.std.proofs.Common.{◌*ℤ◌}
use Rattle.stack_rational.proofs.Common.{◌∣◌, ints, gcd, Fraction, expand, sums, gcd-left, gcd-right, of, add, add-is}
use Rattle.stack_rational.proofs.Common.{mul, mul-is, same_values, over, over-is, Within, IsStored, dvd_refl, dvd-one}
use Rattle.stack_rational.proofs.Common.{dvd-gcd, of-is, is_self, SumFits}
use native.Mathlib.Nat.{dvd-zero, dvd_antisymm, div_self}
use Rattle.stack_rational.specs.Stored.{Fits, CommonFits}
use Rattle.stack_rational.proofs.WideWholes.{num_of, den_of}
use Rattle.stack_rational.proofs.Crosswise.{stored-num, stored-den, stored-fits}

-- 0 has the denominator 1
den_of_zero : (x : Fraction) → x.num ≡ pos 0 → x.den ≡ 1
den_of_zero x e = dvd-one.0
    (subst (λ d. x.den ∣ d) (ap (λ (z : ℤ). gcd (nat_abs z) x.den) (sym e)
    ∙ x.lowest) (dvd-gcd 0 x.den x.den (dvd-zero x.den) (dvd_refl x.den)))

-- a product with 0 is 0
pub zero_times : (x y : Fraction) → x.num ≡ pos 0 → of (pos 0) ≡ mul x y
zero_times x y e = same_values _ _ _ _ _ _ (of-is (pos 0)) (mul-is x y _ _ _ _ (is_self x) (is_self y))
    (cross x.num (pos x.den) y.num (pos y.den) e)
  where
    cross : (a b c d : ℤ) → a ≡ pos 0 → pos 0 *ℤ (b *ℤ d) ≡ a *ℤ c *ℤ pos 1
    cross a b c d e = simp expand (omega (arith, sums, simp expand at (ap (λ t. t *ℤ c) e)))

pub times_zero : (x y : Fraction) → y.num ≡ pos 0 → of (pos 0) ≡ mul x y
times_zero x y e = same_values _ _ _ _ _ _ (of-is (pos 0)) (mul-is x y _ _ _ _ (is_self x) (is_self y))
    (cross x.num (pos x.den) y.num (pos y.den) e)
  where
    cross : (a b c d : ℤ) → c ≡ pos 0 → pos 0 *ℤ (b *ℤ d) ≡ a *ℤ c *ℤ pos 1
    cross a b c d e = simp expand (omega (arith, sums, simp expand at (ap (λ t. a *ℤ t) e)))

pub zero_fits : (m : ℤ) (x : Fraction) → 0 < nat_abs m → of (pos 0) ≡ x → Fits m x
zero_fits m x h e = subst (Fits m) e
    (record { num = omega (arith, ap nat_abs (num_of (pos 0))); den = omega (arith, den_of (pos 0), h) })

-- a sum with 0 is the other number
pub zero_plus : (x y : Fraction) → x.num ≡ pos 0 → y ≡ add x y
zero_plus x y e = same_values _ _ _ _ _ _ (is_self y) (add-is x y _ _ _ _ (is_self x) (is_self y))
    (cross x.num (pos x.den) y.num (pos y.den) e)
  where
    cross : (a b c d : ℤ) → a ≡ pos 0 → c *ℤ (b *ℤ d) ≡ (a *ℤ d +ℤ c *ℤ b) *ℤ d
    cross a b c d e = simp expand (omega (arith, sums, simp expand at (ap (λ t. t *ℤ d *ℤ d) e)))

pub plus_zero : (x y : Fraction) → y.num ≡ pos 0 → x ≡ add x y
plus_zero x y e = same_values _ _ _ _ _ _ (is_self x) (add-is x y _ _ _ _ (is_self x) (is_self y))
    (cross x.num (pos x.den) y.num (pos y.den) e)
  where
    cross : (a b c d : ℤ) → c ≡ pos 0 → a *ℤ (b *ℤ d) ≡ (a *ℤ d +ℤ c *ℤ b) *ℤ b
    cross a b c d e = simp expand (omega (arith, sums, simp expand at (ap (λ t. t *ℤ b *ℤ b) e)))

common_at : (m : ℤ) (x y : Fraction) (p q : ℕ) → p ≡ x.den / gcd x.den y.den → q ≡ y.den / gcd x.den y.den →
    CommonFits m x.num y.num (pos y.den) (pos p) (pos q) → SumFits m x y
common_at m x y p q ep eq f = subst₂ (λ (u v : ℕ). CommonFits m x.num y.num (pos y.den) (pos u) (pos v)) ep eq f

within_by : (m z w : ℤ) → z ≡ w → nat_abs w ≤ nat_abs m → Within m z
within_by m z w e h = subst (λ t. Within m t) (sym e) h

one_left : (z : ℤ) → pos 1 *ℤ z ≡ z
one_left z = simp expand (omega (arith, sums))

one_right : (z : ℤ) → z *ℤ pos 1 ≡ z
one_right z = simp expand (omega (arith, sums))

nought_left : (a z : ℤ) → a ≡ pos 0 → a *ℤ z ≡ pos 0
nought_left a z e = ap (λ t. t *ℤ z) e ∙ plain z
  where
    plain : (z : ℤ) → pos 0 *ℤ z ≡ pos 0
    plain z = simp expand (omega (arith, sums))

-- beside the denominator 1 nothing is in common
apart_left : (x y : Fraction) → x.den ≡ 1 → gcd x.den y.den ≡ 1
apart_left x y e = dvd-one.0 (subst (λ d. gcd x.den y.den ∣ d) e (gcd-left x.den y.den))

apart_right : (x y : Fraction) → y.den ≡ 1 → gcd x.den y.den ≡ 1
apart_right x y e = dvd-one.0 (subst (λ d. gcd x.den y.den ∣ d) e (gcd-right x.den y.den))

pub zero_plus_fits : (m : ℤ) (x y : Fraction) → Fits m y → x.num ≡ pos 0 → SumFits m x y
zero_plus_fits m x y f e = common_at m x y 1 y.den
    (λ i. sym (den_of_zero x e) i / sym g i) (sym (div-one y.den) ∙ (λ i. y.den / sym g i))
    (record {
      den = within_by m _ (pos y.den) (one_left (pos y.den)) f.den;
      left = within_by m _ (pos 0) (nought_left x.num (pos y.den) e) (omega arith);
      right = within_by m _ y.num (one_right y.num) f.num;
      total = within_by m _ y.num ((λ i. nought_left x.num (pos y.den) e i +ℤ one_right y.num i) ∙ none y.num) f.num;
    })
  where
    g : gcd x.den y.den ≡ 1
    g = apart_left x y (den_of_zero x e)

    none : (z : ℤ) → pos 0 +ℤ z ≡ z
    none z = omega (arith, sums)

pub plus_zero_fits : (m : ℤ) (x y : Fraction) → Fits m x → y.num ≡ pos 0 → SumFits m x y
plus_zero_fits m x y f e = common_at m x y x.den 1
    (sym (div-one x.den) ∙ (λ i. x.den / sym g i)) (λ i. sym (den_of_zero y e) i / sym g i)
    (record {
      den = within_by m _ (pos x.den) ((λ i. pos x.den *ℤ pos (den_of_zero y e i)) ∙ one_right (pos x.den)) f.den;
      left = within_by m _ x.num (one_right x.num) f.num;
      right = within_by m _ (pos 0) (nought_left y.num (pos x.den) e) (omega arith);
      total = within_by m _ x.num ((λ i. one_right x.num i +ℤ nought_left y.num (pos x.den) e i) ∙ none x.num) f.num;
    })
  where
    g : gcd x.den y.den ≡ 1
    g = apart_right x y (den_of_zero y e)

    none : (z : ℤ) → z +ℤ pos 0 ≡ z
    none z = omega (arith, sums)

-- the sum of two fractions with one denominator
pub same_den_sum : (x y : Fraction) → x.den ≡ y.den → over (x.num +ℤ y.num) (pos x.den) ≡ add x y
same_den_sum x y e = same_values _ _ _ _ _ _ (over-is (x.num +ℤ y.num) (pos x.den) (omega (arith, ints, x.positive)))
    (add-is x y _ _ _ _ (is_self x) (is_self y)) (cross x.num (pos x.den) y.num (pos y.den) (ap pos e))
  where
    cross : (a b c d : ℤ) → b ≡ d → (a +ℤ c) *ℤ (b *ℤ d) ≡ (a *ℤ d +ℤ c *ℤ b) *ℤ b
    cross a b c d e = subst (λ t. (a +ℤ c) *ℤ (b *ℤ t) ≡ (a *ℤ t +ℤ c *ℤ b) *ℤ b) e (plain a b c)
      where
        plain : (a b c : ℤ) → (a +ℤ c) *ℤ (b *ℤ b) ≡ (a *ℤ b +ℤ c *ℤ b) *ℤ b
        plain a b c = simp expand (omega (arith, sums))

-- nothing is left of a denominator without itself
same_part : (x y : Fraction) → x.den ≡ y.den → (1 ≡ x.den / gcd x.den y.den) × (1 ≡ y.den / gcd x.den y.den)
same_part x y e = (own ∙ (λ i. x.den / sym g i), own ∙ (λ i. e i / sym g i))
  where
    g : gcd x.den y.den ≡ x.den
    g = ap (λ d. gcd x.den d) (sym e)
        ∙ dvd_antisymm (gcd-left x.den x.den) (dvd-gcd x.den x.den x.den (dvd_refl x.den) (dvd_refl x.den))

    own : 1 ≡ x.den / x.den
    own = sym (div_self x.positive)

pub same_den_fits : (m : ℤ) (x y : Fraction) → Fits m x → Fits m y → x.den ≡ y.den → Within m (x.num +ℤ y.num) →
    SumFits m x y
same_den_fits m x y f h e w = common_at m x y 1 1 (same_part x y e).0 (same_part x y e).1
    (record {
      den = within_by m _ (pos y.den) (one_left (pos y.den)) h.den;
      left = within_by m _ x.num (one_right x.num) f.num;
      right = within_by m _ y.num (one_right y.num) h.num;
      total = within_by m _ (x.num +ℤ y.num) (λ i. one_right x.num i +ℤ one_right y.num i) w;
    })

pub same_den_too_wide : (m : ℤ) (x y : Fraction) → x.den ≡ y.den → ¬ (Within m (x.num +ℤ y.num)) → ¬ (SumFits m x y)
same_den_too_wide m x y e h f = h (subst (λ t. Within m t) (λ i. one_right x.num i +ℤ one_right y.num i)
    (subst₂ (λ (u v : ℕ). Within m (x.num *ℤ pos v +ℤ y.num *ℤ pos u)) (sym (same_part x y e).0)
    (sym (same_part x y e).1) f.total))

-- these short cuts, of what is stored
pub stored_zero : (m a b : ℤ) (x : Fraction) → IsStored m a b → over a b ≡ x → a ≡ pos 0 → x.num ≡ pos 0
stored_zero m a b x s e z = sym (stored-num m a b x s e) ∙ z

pub stored_same : (m a b c d : ℤ) (x y : Fraction) → IsStored m a b → IsStored m c d → over a b ≡ x →
    over c d ≡ y → b ≡ d → x.den ≡ y.den
stored_same m a b c d x y s t e f h = ap nat_abs (sym (stored-den m a b x s e) ∙ h ∙ stored-den m c d y t f)

pub stored_sum : (m a b c d n : ℤ) (x y : Fraction) → IsStored m a b → IsStored m c d → over a b ≡ x →
    over c d ≡ y → b ≡ d → n ≡ a +ℤ c → over n b ≡ add x y
stored_sum m a b c d n x y s t e f h en =
    (λ i. over ((en ∙ (λ j. stored-num m a b x s e j +ℤ stored-num m c d y t f j)) i)
    (stored-den m a b x s e i))
    ∙ same_den_sum x y (stored_same m a b c d x y s t e f h)

pub stored_sum_fits : (m a b c d : ℤ) (x y : Fraction) → IsStored m a b → IsStored m c d → over a b ≡ x →
    over c d ≡ y → b ≡ d → Within m (a +ℤ c) → SumFits m x y
stored_sum_fits m a b c d x y s t e f h w = same_den_fits m x y (stored-fits m a b x s e)
    (stored-fits m c d y t f) (stored_same m a b c d x y s t e f h)
    (subst (Within m) (λ j. stored-num m a b x s e j +ℤ stored-num m c d y t f j) w)

pub stored_sum_too_wide : (m a b c d : ℤ) (x y : Fraction) → IsStored m a b → IsStored m c d → over a b ≡ x →
    over c d ≡ y → b ≡ d → ¬ (Within m (a +ℤ c)) → ¬ (SumFits m x y)
stored_sum_too_wide m a b c d x y s t e f h w = same_den_too_wide m x y (stored_same m a b c d x y s t e f h)
    (λ k. w (subst (Within m) (sym (λ j. stored-num m a b x s e j +ℤ stored-num m c d y t f j)) k))
