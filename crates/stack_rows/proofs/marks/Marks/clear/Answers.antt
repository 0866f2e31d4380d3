use Rattle.std.proofs.Common.{arith}
use Rattle.stack_rows.proofs.Bits.{all_clear}
use Rattle.stack_rows.proofs.marks.Marks.clear.Goals as goal

pub returns-clause-nothing : goal.returns-clause-nothing
returns-clause-nothing c = all_clear c.loop-w.self.words.items
    (λ k l. c.loop-w.invariant.done k (omega (arith, l, c.loop-w-test.false, c.loop-w.invariant.long)))
