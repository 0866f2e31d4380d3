use Rattle.std.proofs.Common.{refl, ap, ◌∙◌, rules, length, SFits, w64, to_z-of_z}
use Rattle.stack_inverse.specs.FirstTable.{less_cells}
use Rattle.stack_inverse.proofs.TurnedColumns.{with_first}
use Rattle.stack_inverse.proofs.building.with_cost.Goals as goal

pub returns : goal.returns
returns c =
    let fits : SFits w64 c.in-Some.value = search rules in
    with_first (length c.args.right.now) c.args.right.now c.args.entries.now c.in_ok-cells.cells.items
    c.push.new.self.items _ c.in_ok-cells.ensures refl
    (to_z-of_z fits ∙ c.in-Some.ensures ∙ ap less_cells c.as_slice.ensures.value) c.in_ok-push.ensures.items
