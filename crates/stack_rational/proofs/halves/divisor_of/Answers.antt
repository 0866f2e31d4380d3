use Rattle.std.proofs.Common.{arith}
use Rattle.std.specs.Int.{w128}
use Rattle.stack_rational.proofs.OddDivisors.{shifted_divisor}
use Rattle.stack_rational.proofs.halves.divisor_of.Goals as goal

pub returns : goal.returns
returns c = shifted_divisor w128 c.args.a c.args.b c.broad_divisor_of_odd.result c.broad_odd_part.result c.min.result
    (omega (arith, c.if-a-eq0.false)) c.ranges.a.fits c.ranges.b.fits c.broad_odd_part.ensures.product
    c.broad_odd_part.ensures.odd c.min.ensures c.broad_divisor_of_odd.ensures
