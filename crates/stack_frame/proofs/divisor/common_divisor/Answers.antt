use Rattle.std.proofs.lemmas.Nat.Gcd.{same_from_IsGcd}
use Rattle.stack_algebra.specs.Gcd.{gcd}
use Rattle.stack_algebra.proofs.CommonDivisor.{gcd-is}
use Rattle.stack_frame.proofs.divisor.common_divisor.Goals as goal

pub returns : goal.returns
returns c = same_from_IsGcd c.args.a c.args.b c.divisor_of_words.result (gcd c.args.a c.args.b)
    c.divisor_of_words.ensures (gcd-is c.args.a c.args.b)
