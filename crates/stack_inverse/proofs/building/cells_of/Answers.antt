use Rattle.stack_inverse.proofs.FirstSteps.{turned_next}
use Rattle.stack_inverse.proofs.building.cells_of.Goals as goal

pub loop-entry-preserved : goal.loop-entry-preserved
loop-entry-preserved c = turned_next c.args.right.now c.args.entries.now c.loop-entry.cells.items
    c.push.new.self.items c.loop-entry.entry-index _ c.in-Some.cell c.loop-entry-test.true c.loop-entry.invariant
    c.in_ok-push.ensures.items c.in-Some.ensures.row c.in-Some.ensures.value
