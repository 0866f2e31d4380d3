-- Laws of what is too wide and of the order.
use Rattle.std.specs.Prelude.{◌≡◌, ◌↔◌, ℤ, pos, true, false, not, unsigned_abs, ◌≤◌}
use Rattle.std.specs.declared.cmp.Ordering.TheVariants.{Less, Equal, Greater}
use Rattle.stack_whole.specs.Whole.{greatest_number, fits as fits_whole}
use Rattle.stack_algebra.specs.Fraction.{Fraction}
use Rattle.stack_algebra.proofs.Fractions.{add, neg, of}
use Rattle.stack_rational.specs.declared.exact.Op.{Op}
use Rattle.stack_rational.specs.declared.exact.Op.TheVariants.{Whole, Difference, Product, Quotient}
use Rattle.stack_rational.specs.Order.{order_of, is_zero}
use Rattle.stack_rational.specs.TooWide.{IsWidth, fraction_fits, is_too_wide, op_value}

-- what isn't too wide for a greatest value isn't too wide for a greater one; the value is the same, since it doesn't
-- depend on either
abbrev pub WiderIsNeverTooWide : Type 0
WiderIsNeverTooWide = (m n : ℤ) (op : Op) (x y : Fraction) → unsigned_abs m ≤ unsigned_abs n →
    is_too_wide m op x y ≡ false → is_too_wide n op x y ≡ false

-- the greatest value at 128 bits
abbrev pub widest : ℤ
widest = pos greatest_number

-- at 128 bits a whole number is too wide exactly if it doesn't fit
abbrev pub WholeIsTooWideAtWidest : Type 0
WholeIsTooWideAtWidest = (n : ℤ) → is_too_wide widest Whole (of n) (of n) ≡ not (fits_whole n)

-- the answer of an operation that isn't too wide fits
abbrev pub AnswersFit : Type 0
AnswersFit = (m : ℤ) (op : Op) (x y : Fraction) → fraction_fits m x ≡ true → is_too_wide m op x y ≡ false →
    fraction_fits m (op_value op x y) ≡ true

-- a whole number that isn't too wide fits; 0, 1 and -1 are never too wide; nor is a product that is 0, a number less 0,
-- or 0 over a number
pub record SmallIsNeverTooWide (m : ℤ) : Type 0 where
  pub whole_fits : (n : ℤ) → is_too_wide m Whole (of n) (of n) ≡ false → fraction_fits m (of n) ≡ true
  pub small : (n : ℤ) → unsigned_abs n ≤ 1 → is_too_wide m Whole (of n) (of n) ≡ false
  pub difference : (x y : Fraction) → fraction_fits m x ≡ true → is_zero y ≡ true →
      (op_value Difference x y ≡ x) × (is_too_wide m Difference x y ≡ false)
  pub product : (x y : Fraction) → is_zero (op_value Product x y) ≡ true → is_too_wide m Product x y ≡ false
  pub quotient : (x y : Fraction) → is_zero x ≡ true →
      (op_value Quotient x y ≡ x) × (is_too_wide m Quotient x y ≡ false)

-- so it is at each greatest value from 1 to 2^127 - 1
abbrev pub SmallFits : Type 0
SmallFits = (m : ℤ) → IsWidth m → SmallIsNeverTooWide m

-- the order is total and that of the values
pub record OrderLaws : Type 0 where
  pub equal : (x y : Fraction) → (order_of x y ≡ Equal) ↔ (x ≡ y)
  pub turned : (x y : Fraction) → (order_of x y ≡ Less) ↔ (order_of y x ≡ Greater)
  pub transitive : (x y z : Fraction) → order_of x y ≡ Less → order_of y z ≡ Less → order_of x z ≡ Less
  pub by_difference : (x y : Fraction) → order_of x y ≡ order_of (add x (neg y)) (of (pos 0))
