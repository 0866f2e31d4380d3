-- What fits, and what is made.
use Rattle.std.proofs.Common.{arith}
use lib.IntN.{ℤ}
use Rattle.stack_whole.specs.Whole.{Makes, made}

-- a number is made exactly where it fits
pub made-is : (z : ℤ) → Makes z (made z)
made-is z = grind arith
