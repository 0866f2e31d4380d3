-- What fits a greatest value fits a greater one.
use Rattle.std.proofs.Common.{arith, true, not, ◌≡◌, ap, ◌≤◌, ℤ, nat_abs, ◌+ℤ◌, le-leb, leb-true}
use Rattle.stack_rational.proofs.Common.{Fraction, neg, mul, inv, fraction_fits, sum_fits, is_within}
use Rattle.stack_rational.proofs.Common.{common_denominator, left_term, right_term, not-false, left_true, right_true}
use Rattle.stack_rational.proofs.Common.{and_true}
use Rattle.stack_rational.specs.declared.exact.Op.TheVariants.{Whole, Sum, Difference, Product, Quotient}
use Rattle.stack_rational.specs.Laws.{WiderIsNeverTooWide}

module _ (m n : ℤ) (wider : nat_abs m ≤ nat_abs n) where
  within : (z : ℤ) → is_within m z ≡ true → is_within n z ≡ true
  within z h = le-leb (nat_abs z) (nat_abs n) (omega (arith, wider, leb-true (nat_abs z) (nat_abs m) h))

  pub fits_wider : (x : Fraction) → fraction_fits m x ≡ true → fraction_fits n x ≡ true
  fits_wider x h = and_true _ _ (within x.num (left_true _ _ h))
      (le-leb x.den (nat_abs n) (omega (arith, wider, leb-true x.den (nat_abs m) (right_true _ _ h))))

  sum_fits_wider : (x y : Fraction) → sum_fits m x y ≡ true → sum_fits n x y ≡ true
  sum_fits_wider x y h =
      let three = left_true _ _ h in
      let two = left_true _ _ three in
      and_true _ _ (and_true _ _ (and_true _ _ (within (common_denominator x y) (left_true _ _ two))
      (within (left_term x y) (right_true _ _ two)))
      (within (right_term x y) (right_true _ _ three)))
      (within (left_term x y +ℤ right_term x y) (right_true _ _ h))

pub wider_is_never_too_wide : WiderIsNeverTooWide
wider_is_never_too_wide m n Whole x y w h = ap not (within m n w x.num (not-false _ h))
wider_is_never_too_wide m n Sum x y w h = ap not (sum_fits_wider m n w x y (not-false _ h))
wider_is_never_too_wide m n Difference x y w h = ap not (sum_fits_wider m n w x (neg y) (not-false _ h))
wider_is_never_too_wide m n Product x y w h = ap not (fits_wider m n w (mul x y) (not-false _ h))
wider_is_never_too_wide m n Quotient x y w h = ap not (fits_wider m n w (mul (inv y) x) (not-false _ h))
