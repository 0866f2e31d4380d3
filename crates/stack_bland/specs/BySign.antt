-- The order of two numbers, by the sign of their difference.
use Rattle.std.specs.declared.cmp.Ordering.{Ordering}
use Rattle.std.specs.declared.cmp.Ordering.TheVariants.{Less, Equal, Greater}
use Rattle.stack_algebra.specs.Ordered.{Sign, minus, nought, plus}

-- a number is less than another, equal or greater, as their difference is negative, 0 or positive
abbrev pub by_sign : Sign → Ordering
by_sign minus = Less
by_sign nought = Equal
by_sign plus = Greater
