use Rattle.std.specs.Int.{w128}
use Rattle.std.proofs.lemmas.Nat.Bits.{bit_at-trailing_zeros}
use Rattle.stack_rational.proofs.OddDivisors.{without_zeros}
use Rattle.stack_rational.proofs.halves.broad_odd_part.Goals as goal

pub returns-clause-product : goal.returns-clause-product
returns-clause-product c = without_zeros w128 c.args.n c.requires c.ranges.n.fits

pub returns-clause-odd : goal.returns-clause-odd
returns-clause-odd c = (bit_at-trailing_zeros w128 c.args.n c.requires c.ranges.n.fits).1
