use Rattle.std.proofs.Common.{refl, to_z-of_z}
use Rattle.stack_inverse.proofs.CellSteps.{told_cell}
use Rattle.stack_inverse.proofs.spots.RowStepCells.cell.Goals as goal

pub returns-in-Ok : goal.returns-in-Ok
returns-in-Ok c =
    let s = c.args.self.now in
    told_cell c.args.own s.under c.args.other s.pivot_under s.number s.pivot_under s.number s.positive s.pivot_positive
    s.pivot_positive refl c.in-Ok.reduced
    (rw (c.in-Ok.is, to_z-of_z c.ranges.own, to_z-of_z c.ranges.other) at c.in_ok-reduced.ensures).0
