-- What isn't too wide fits, and what is 0 is never too wide.
use Rattle.std.proofs.Common.{arith, ℕ, ◌^◌, true, false, not, nat_le, nat_lt, ◌≡◌, refl, sym, ap, ◌∙◌, ◌≢◌, zero, suc}
use Rattle.std.proofs.Common.{◌/◌, ◌≤◌, ℤ, pos, negsuc, nat_abs, ◌+ℤ◌, ◌*ℤ◌, le-leb, leb-true, Bool}
use Rattle.stack_rational.proofs.Common.{ints, Sign, minus, nought, plus, sign_of, Fraction, gcd, ◌≺◌, mul_pos, expand}
use Rattle.stack_rational.proofs.Common.{sums, gcd-left, gcd-right, add, mul, neg, of, inv, ordered_fractions, over}
use Rattle.stack_rational.proofs.Common.{is_zero_whole, is_zero, IsWidth, fraction_fits, sum_fits, is_too_wide}
use Rattle.stack_rational.proofs.Common.{opposite, product_sign, gcd-pos, abs_signed, den_pos, over-parts, over_own}
use Rattle.stack_rational.proofs.Common.{SumFits, is_within, common_denominator, left_term, right_term, not-false}
use Rattle.stack_rational.proofs.Common.{left_true, right_true, and_true}
use Rattle.std.proofs.Math.Nat.{div-le_self}
use Rattle.stack_whole.specs.Whole.{greatest_number}
use Rattle.stack_algebra.specs.Fraction.{low_num, low_den}
use Rattle.stack_algebra.proofs.Fractions.{zero_mul, mul_comm}
use Rattle.stack_algebra.proofs.Over.{add-common}
use Rattle.stack_rational.specs.Stored.{Fits}
use Rattle.stack_rational.specs.declared.exact.Op.TheVariants.{Whole, Sum, Difference, Product, Quotient}
use Rattle.stack_rational.specs.Laws.{AnswersFit, SmallFits, WholeIsTooWideAtWidest}
use Rattle.stack_rational.proofs.Crosswise.{exact-part, positive-part}
use Rattle.stack_rational.proofs.WideWholes.{num_of, den_of}
use Rattle.stack_rational.proofs.ShortCuts.{plus_zero, plus_zero_fits}

-- the sign of a number that is 0
is_zero_whole-sign : (z : ℤ) → is_zero_whole z ≡ true → sign_of z ≡ nought
is_zero_whole-sign (pos zero) h = refl
is_zero_whole-sign (pos (suc n)) h = absurd cc
is_zero_whole-sign (negsuc n) h = absurd cc

nought_is : (z : ℤ) → sign_of z ≡ nought → is_zero_whole z ≡ true
nought_is (pos zero) e = refl
nought_is (pos (suc n)) e = absurd cc
nought_is (negsuc n) e = absurd cc

pub is_zero_whole-num : (z : ℤ) → is_zero_whole z ≡ true → z ≡ pos 0
is_zero_whole-num (pos zero) h = refl
is_zero_whole-num (pos (suc n)) h = absurd cc
is_zero_whole-num (negsuc n) h = absurd cc

pub zero_is : (x : Fraction) → is_zero x ≡ true → x ≡ of (pos 0)
zero_is x h = ordered_fractions.zero_by_sign x (is_zero_whole-sign x.num h)

pub is_zero-of : is_zero (of (pos 0)) ≡ true
is_zero-of = ap is_zero_whole (num_of (pos 0))

-- a quotient is 0 only where the number is
not_nought : (z : ℤ) → is_zero_whole z ≡ false → sign_of z ≢ nought
not_nought (pos zero) h e = cc
not_nought (pos (suc n)) h e = cc
not_nought (negsuc n) h e = cc

is_zero_whole-not : (z : ℤ) → sign_of z ≢ nought → is_zero_whole z ≡ false
is_zero_whole-not (pos zero) h = absurd (h refl)
is_zero_whole-not (pos (suc n)) h = refl
is_zero_whole-not (negsuc n) h = refl

product_sign-not : (s t : Sign) → s ≢ nought → t ≢ nought → product_sign s t ≢ nought
product_sign-not minus minus h k e = cc
product_sign-not minus nought h k e = k refl
product_sign-not minus plus h k e = cc
product_sign-not nought t h k e = h refl
product_sign-not plus t h k e = k e

pub sign-not : (z : ℤ) → z ≢ pos 0 → sign_of z ≢ nought
sign-not (pos zero) h e = h refl
sign-not (pos (suc n)) h e = cc
sign-not (negsuc n) h e = cc

inv-not : (y : Fraction) → sign_of y.num ≢ nought → sign_of (inv y).num ≢ nought
inv-not y h e = go (ordered_fractions.sign-mul (inv y) y)
    (ap ordered_fractions.sign (ordered_fractions.inv-mul y h) ∙ ordered_fractions.sign-one)
  where
    go : sign_of (mul (inv y) y).num ≡ product_sign (sign_of (inv y).num) (sign_of y.num) →
        sign_of (mul (inv y) y).num ≡ plus → ⊥
    go p q = let r : plus ≡ nought = sym q ∙ p ∙ ap (λ s. product_sign s (sign_of y.num)) e in cc

pub quotient_not-zero : (x y : Fraction) → is_zero x ≡ false → y.num ≢ pos 0 → is_zero (mul (inv y) x) ≡ false
quotient_not-zero x y h k = is_zero_whole-not (mul (inv y) x).num
    (λ e. product_sign-not (sign_of (inv y).num) (sign_of x.num) (inv-not y (sign-not y.num k))
    (not_nought x.num h) (sym (ordered_fractions.sign-mul (inv y) x) ∙ e))

-- what fits, as a record and as a test
pub Fits-of : (m : ℤ) (x : Fraction) → fraction_fits m x ≡ true → Fits m x
Fits-of m x h = record {
  num = leb-true (nat_abs x.num) (nat_abs m) (left_true _ _ h);
  den = leb-true x.den (nat_abs m) (right_true _ _ h);
}

pub fits-of : (m : ℤ) (x : Fraction) → Fits m x → fraction_fits m x ≡ true
fits-of m x f = and_true _ _ (le-leb (nat_abs x.num) (nat_abs m) f.num) (le-leb x.den (nat_abs m) f.den)

too_wide-of : (b : Bool) → ¬ (b ≡ true) → not b ≡ true
too_wide-of true h = absurd (h refl)
too_wide-of false h = refl

-- what does not fit is too wide
pub wide-of : (m : ℤ) (x : Fraction) → ¬ (Fits m x) → not (fraction_fits m x) ≡ true
wide-of m x h = too_wide-of _ (λ e. h (Fits-of m x e))

pub sum_wide-of : (m : ℤ) (x y : Fraction) → ¬ (SumFits m x y) → not (sum_fits m x y) ≡ true
sum_wide-of m x y h = too_wide-of _ (λ e. h (record {
  den = leb-true _ (nat_abs m) (left_true _ _ (left_true _ _ (left_true _ _ e)));
  left = leb-true _ (nat_abs m) (right_true _ _ (left_true _ _ (left_true _ _ e)));
  right = leb-true _ (nat_abs m) (right_true _ _ (left_true _ _ e));
  total = leb-true _ (nat_abs m) (right_true _ _ e);
}))

pub sum_fits-of : (m : ℤ) (x y : Fraction) → SumFits m x y → sum_fits m x y ≡ true
sum_fits-of m x y f = and_true _ _ (and_true _ _ (and_true _ _ (le-leb _ (nat_abs m) f.den)
    (le-leb _ (nat_abs m) f.left))
    (le-leb _ (nat_abs m) f.right)) (le-leb _ (nat_abs m) f.total)

module _ (m : ℤ) (w : IsWidth m) where
  pub zero_fits : fraction_fits m (of (pos 0)) ≡ true
  zero_fits = fits-of m (of (pos 0)) (record {
    num = omega (arith, ap nat_abs (num_of (pos 0)));
    den = omega (arith, ints, den_of (pos 0), w.some);
  })

  pub quotient_of_zero : (x y : Fraction) → is_zero x ≡ true →
      (mul (inv y) x ≡ x) × (is_too_wide m Quotient x y ≡ false)
  quotient_of_zero x y h = (e ∙ sym (zero_is x h), ap not (ap (fraction_fits m) e ∙ zero_fits))
    where
      e : mul (inv y) x ≡ of (pos 0)
      e = ap (mul (inv y)) (zero_is x h) ∙ mul_comm (inv y) (of (pos 0)) ∙ zero_mul (inv y)

  pub product_of_zero : (x y : Fraction) → mul x y ≡ of (pos 0) → is_too_wide m Product x y ≡ false
  product_of_zero x y e = ap not (ap (fraction_fits m) e ∙ zero_fits)

  pub difference_of_zero : (x y : Fraction) → fraction_fits m x ≡ true → y ≡ of (pos 0) →
      (add x (neg y) ≡ x) × (is_too_wide m Difference x y ≡ false)
  difference_of_zero x y f h = (
    sym (plus_zero x (neg y) none),
    ap not (sum_fits-of m x (neg y) (plus_zero_fits m x (neg y) (Fits-of m x f) none)),
  )
    where
      none : (neg y).num ≡ pos 0
      none = is_zero_whole-num (neg y).num (ap (λ (z : Fraction). is_zero (neg z)) h
          ∙ nought_is (neg (of (pos 0))).num (ordered_fractions.sign-neg (of (pos 0))
          ∙ ap opposite ordered_fractions.sign-zero))

  -- a whole number that isn't too wide fits
  pub whole_answers : (n : ℤ) → is_too_wide m Whole (of n) (of n) ≡ false → fraction_fits m (of n) ≡ true
  whole_answers n h = and_true _ _ (not-false _ h)
      (le-leb (of n).den (nat_abs m) (omega (arith, ints, den_of n, w.some)))

  pub small_whole : (n : ℤ) → nat_abs n ≤ 1 → is_too_wide m Whole (of n) (of n) ≡ false
  small_whole n h = ap not (le-leb (nat_abs (of n).num) (nat_abs m)
      (omega (arith, ints, ap nat_abs (num_of n), w.some, h)))

  pub minus_one-fits : is_too_wide m Whole (of (negsuc 0)) (of (negsuc 0)) ≡ false
  minus_one-fits = small_whole (negsuc 0) (omega arith)

pub small_fits : SmallFits
small_fits m w = record {
  whole_fits = whole_answers m w;
  small = small_whole m w;
  difference = λ x y f h. difference_of_zero m w x y f (zero_is y h);
  product = λ x y h. product_of_zero m w x y (zero_is (mul x y) h);
  quotient = quotient_of_zero m w;
}

-- the reduced fraction is no greater than its parts
over_fits : (m z d : ℤ) → pos 0 ≺ d → is_within m z ≡ true → is_within m d ≡ true → fraction_fits m (over z d) ≡ true
over_fits m z d l hz hd = fits-of m (over z d) (record {
  num = omega (
    arith,
    ap nat_abs p.0,
    abs_signed z (nat_abs z / gcd (nat_abs z) (nat_abs d)),
    div-le_self (nat_abs z) (gcd (nat_abs z) (nat_abs d)),
    leb-true (nat_abs z) (nat_abs m) hz,
  );
  den = omega (
    arith,
    p.1,
    div-le_self (nat_abs d) (gcd (nat_abs z) (nat_abs d)),
    leb-true (nat_abs d) (nat_abs m) hd,
  );
})
  where
    p : ((over z d).num ≡ low_num z (nat_abs d)) × ((over z d).den ≡ low_den z (nat_abs d))
    p = over-parts z d l

-- a sum is the fraction of its terms over the least common denominator
sum_is : (x y : Fraction) → add x y ≡ over (left_term x y +ℤ right_term x y) (common_denominator x y)
sum_is x y = (λ i. add (own x b eb i) (own y e ee i)) ∙ add-common x.num b y.num e g hg hb he
    ∙ ap (over (left_term x y +ℤ right_term x y)) (turned g b e ∙ ap (λ t. b *ℤ t) ee)
  where
    g : ℤ
    g = pos (gcd x.den y.den)

    b : ℤ
    b = pos (x.den / gcd x.den y.den)

    e : ℤ
    e = pos (y.den / gcd x.den y.den)

    eb : g *ℤ b ≡ pos x.den
    eb = exact-part (pos x.den) (gcd x.den y.den) (gcd-left x.den y.den)

    ee : g *ℤ e ≡ pos y.den
    ee = exact-part (pos y.den) (gcd x.den y.den) (gcd-right x.den y.den)

    hg : pos 0 ≺ g
    hg = omega (arith, ints, gcd-pos x.den y.den y.positive)

    hb : pos 0 ≺ b
    hb = positive-part (pos x.den) (gcd x.den y.den) (den_pos x) (gcd-left x.den y.den)

    he : pos 0 ≺ e
    he = positive-part (pos y.den) (gcd x.den y.den) (den_pos y) (gcd-right x.den y.den)

    own : (z : Fraction) (p : ℤ) → g *ℤ p ≡ pos z.den → z ≡ over z.num (g *ℤ p)
    own z p h = sym (ap (over z.num) h ∙ over_own z)

    turned : (g b e : ℤ) → g *ℤ b *ℤ e ≡ b *ℤ (g *ℤ e)
    turned g b e = simp expand (omega (arith, sums))

sum_answers : (m : ℤ) (x y : Fraction) → sum_fits m x y ≡ true → fraction_fits m (add x y) ≡ true
sum_answers m x y h = ap (fraction_fits m) (sum_is x y)
    ∙ over_fits m (left_term x y +ℤ right_term x y) (common_denominator x y) positive (right_true _ _ h)
    (left_true _ _ (left_true _ _ (left_true _ _ h)))
  where
    positive : pos 0 ≺ common_denominator x y
    positive = mul_pos (pos (x.den / gcd x.den y.den)) (pos y.den)
        (positive-part (pos x.den) (gcd x.den y.den) (den_pos x) (gcd-left x.den y.den)) (den_pos y)

-- the answer of an operation that isn't too wide fits
pub answer_fits : AnswersFit
answer_fits m Whole x y f h = f
answer_fits m Sum x y f h = sum_answers m x y (not-false _ h)
answer_fits m Difference x y f h = sum_answers m x (neg y) (not-false _ h)
answer_fits m Product x y f h = not-false _ h
answer_fits m Quotient x y f h = not-false _ h

-- at 128 bits: at most the greatest number, or below the next
pub whole_too_wide_at_widest : WholeIsTooWideAtWidest
whole_too_wide_at_widest n = ap (λ z. not (nat_le (nat_abs z) greatest_number)) (num_of n) ∙ ap not (same (nat_abs n))
  where
    same : (k : ℕ) → nat_le k greatest_number ≡ nat_lt k (2 ^ 127)
    same k = grind arith
