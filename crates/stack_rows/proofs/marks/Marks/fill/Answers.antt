use Rattle.std.proofs.Common.{◌/◌, arith}
use Rattle.stack_rows.proofs.Bits.{filled}
use Rattle.stack_rows.proofs.marks.Marks.fill.Goals as goal

pub returns-clause-each : goal.returns-clause-each
returns-clause-each c = λ j l. filled c.loop-w.self.words.items j
    (c.loop-w.invariant.done (j / 64) (omega (arith, l, c.loop-w-test.false, c.loop-w.invariant.long)))
