use Rattle.std.proofs.Common.{arith}
use Rattle.stack_rows.proofs.Kept.{same_numbers}
use Rattle.stack_rows.proofs.keeping.narrow_all.Goals as goal

pub returns : goal.returns
returns c = same_numbers c.loop-j.words c.args.numbers.now (omega (arith, c.loop-j.auto.words, c.requires.width))
    (λ k l. c.loop-j.invariant k (omega (arith, l, c.loop-j-test.false, c.loop-j.auto.words)))
