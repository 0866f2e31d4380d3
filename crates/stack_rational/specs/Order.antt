-- The order and the sign of exact numbers.
use Rattle.std.specs.Prelude.{zero, suc, ℤ, pos, negsuc, ◌*ℤ◌, Bool, true, false}
use Rattle.std.specs.Ordering.{int_cmp}
use Rattle.std.specs.declared.cmp.Ordering.{Ordering}
use Rattle.stack_algebra.specs.Fraction.{Fraction}

-- x before, equal to or after y: as their cross products are
abbrev pub order_of : Fraction → Fraction → Ordering
order_of x y = int_cmp (x.num *ℤ pos y.den) (y.num *ℤ pos x.den)

-- a whole number is 0
abbrev pub is_zero_whole : ℤ → Bool
is_zero_whole (pos zero) = true
is_zero_whole (pos (suc n)) = false
is_zero_whole (negsuc n) = false

-- the value of a fraction is 0
abbrev pub is_zero : Fraction → Bool
is_zero x = is_zero_whole x.num
