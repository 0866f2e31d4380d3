use Rattle.std.proofs.Common.{arith}
use Rattle.std.specs.Int.{w64}
use Rattle.stack_rational.proofs.OddDivisors.{shifted_divisor}
use Rattle.stack_rational.proofs.halves.divisor_of_words.Goals as goal

pub returns : goal.returns
returns c = shifted_divisor w64 c.args.a c.args.b c.divisor_of_odd.result c.odd_part.result c.min.result
    (omega (arith, c.if-a-eq0.false)) c.ranges.a.fits c.ranges.b.fits c.odd_part.ensures.product
    c.odd_part.ensures.odd c.min.ensures c.divisor_of_odd.ensures
