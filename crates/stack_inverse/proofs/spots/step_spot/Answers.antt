use Rattle.std.proofs.Common.{to_z-of_z}
use Rattle.stack_inverse.proofs.spots.step_spot.Goals as goal

pub returns-then-numbers_fit : goal.returns-then-numbers_fit
returns-then-numbers_fit c = rw (to_z-of_z c.ranges.own, to_z-of_z c.ranges.pivot)
    at (c.numbers_fit.ensures c.if-numbers_fit.true)

pub returns-in-Ok : goal.returns-in-Ok
returns-in-Ok c = (rw (c.in-Ok.is, to_z-of_z c.ranges.own, to_z-of_z c.ranges.pivot) at c.in_ok-reduced_cell.ensures).1

pub returns-in-Err : goal.returns-in-Err
returns-in-Err c = rw (c.in-Err.is, to_z-of_z c.ranges.own, to_z-of_z c.ranges.pivot) at c.in_ok-reduced_cell.ensures
