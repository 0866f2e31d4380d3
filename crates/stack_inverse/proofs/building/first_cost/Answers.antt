use Rattle.std.proofs.Common.{rules, get_or, pos, SFits, to_z, of_z, to_z-of_z, w64}
use Rattle.stack_rational.proofs.Common.{w128}
use Rattle.stack_inverse.specs.declared.columns.Cell.{Cell}
use Rattle.stack_inverse.specs.FirstTable.{less_cells}
use Rattle.stack_inverse.proofs.FirstSteps.{less_more}
use Rattle.stack_inverse.proofs.building.first_cost.Goals as goal

pub loop-cell-preserved : goal.loop-cell-preserved
loop-cell-preserved c =
    let cells = c.args.cells.now in
    let k = c.loop-cell.cell-index in
    let d : Cell = record { row = 0; value = pos 0 } in
    let own : SFits w64 (get_or cells k d).value = search rules in
    let wide : SFits w128 (get_or cells k d).value = search rules in
    let rest : SFits w128 c.in_ok-rest.rest = search rules in
    less_more cells k d c.loop-cell-test.true (to_z w128 c.loop-cell.rest-bits)
    (to_z w128 (of_z w128 c.in_ok-rest.rest)) (less_cells cells) c.loop-cell.invariant
    (cc (to_z-of_z own, to_z-of_z wide, to_z-of_z rest, c.in_ok-rest.ensures.1))
