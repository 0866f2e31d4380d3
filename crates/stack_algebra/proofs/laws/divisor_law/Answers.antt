use Rattle.stack_algebra.proofs.CommonDivisor.{gcd-is}
use Rattle.stack_algebra.proofs.laws.divisor_law.Goals as goal

pub returns : goal.returns
returns c = gcd-is
