-- When an operation on exact numbers is too wide for a greatest value, and what it answers: one test and one value for
-- each operation.
-- Of a sum and a difference the numbers over the least common denominator are tested too, before it is reduced.
-- Nothing else of the way that the code takes is said here. Used by every layer that computes with exact numbers.
use Rattle.std.specs.Prelude.{ℤ, pos, ◌/◌, ◌≤ℤ◌, ◌+ℤ◌, ◌*ℤ◌, Bool, not, ◌&&◌, nat_le, unsigned_abs}
use Rattle.stack_whole.specs.Whole.{greatest_number}
use Rattle.stack_algebra.specs.Gcd.{gcd}
use Rattle.stack_algebra.specs.Fraction.{Fraction}
use Rattle.stack_algebra.proofs.Fractions.{add, mul, neg}
use Rattle.stack_algebra.proofs.FractionField.{inv}
use Rattle.stack_rational.specs.declared.exact.Op.{Op}
use Rattle.stack_rational.specs.declared.exact.Op.TheVariants.{Whole, Sum, Difference, Product, Quotient}

-- a greatest value: from 1 to that of 128 bits
pub record IsWidth (m : ℤ) : Type 0 where
  pub some : pos 1 ≤ℤ m
  pub at_most : m ≤ℤ pos greatest_number

-- the size of z is at most that of m
abbrev pub is_within : ℤ → ℤ → Bool
is_within m z = nat_le (unsigned_abs z) (unsigned_abs m)

-- a numerator and a denominator are at most m in size
abbrev pub fraction_fits : ℤ → Fraction → Bool
fraction_fits m x = is_within m x.num && nat_le x.den (unsigned_abs m)

-- the least common denominator of x and y
abbrev pub common_denominator : Fraction → Fraction → ℤ
common_denominator x y = pos (x.den / gcd x.den y.den) *ℤ pos y.den

-- the numerator of x over that denominator
abbrev pub left_term : Fraction → Fraction → ℤ
left_term x y = x.num *ℤ pos (y.den / gcd x.den y.den)

-- the numerator of y over that denominator
abbrev pub right_term : Fraction → Fraction → ℤ
right_term x y = y.num *ℤ pos (x.den / gcd x.den y.den)

-- neither the least common denominator nor either term nor the sum, before it is reduced, is too wide
abbrev pub sum_fits : ℤ → Fraction → Fraction → Bool
sum_fits m x y =
    is_within m (common_denominator x y) && is_within m (left_term x y) && is_within m (right_term x y)
    && is_within m (left_term x y +ℤ right_term x y)

-- whether an operation is too wide for m. For `Whole` x is a whole number, and y isn't used
abbrev pub is_too_wide : ℤ → Op → Fraction → Fraction → Bool
is_too_wide m Whole x y = not (is_within m x.num)
is_too_wide m Sum x y = not (sum_fits m x y)
is_too_wide m Difference x y = not (sum_fits m x (neg y))
is_too_wide m Product x y = not (fraction_fits m (mul x y))
is_too_wide m Quotient x y = not (fraction_fits m (mul (inv y) x))

-- the value of an operation
abbrev pub op_value : Op → Fraction → Fraction → Fraction
op_value Whole x y = x
op_value Sum x y = add x y
op_value Difference x y = add x (neg y)
op_value Product x y = mul x y
op_value Quotient x y = mul (inv y) x
