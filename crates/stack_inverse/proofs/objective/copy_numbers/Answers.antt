use Rattle.std.proofs.Common.{arith}
use Rattle.stack_rows.specs.RowSeen.{numbers_of}
use Rattle.stack_rows.proofs.Kept.{same_numbers}
use Rattle.stack_inverse.proofs.objective.copy_numbers.Goals as goal

pub returns : goal.returns
returns c = same_numbers c.loop-j.numbers (numbers_of c.args.row.now) (omega (arith, c.loop-j.auto.numbers, c.requires))
    (λ k l. c.loop-j.invariant k (omega (arith, l, c.loop-j-test.false, c.loop-j.auto.numbers)))
