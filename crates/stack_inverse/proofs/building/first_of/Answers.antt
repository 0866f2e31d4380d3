use Rattle.std.proofs.Common.{◌<◌, ◌≤◌, ℕ, List, length, subst}
use Rattle.stack_inverse.specs.declared.columns.FirstColumn.{FirstColumn}
use Rattle.stack_inverse.specs.Columns.{cells_at}
use Rattle.stack_inverse.specs.FirstTable.{sizes_in}
use Rattle.stack_inverse.proofs.TurnedColumns.{first_columns}
use Rattle.stack_inverse.proofs.building.first_of.Goals as goal

pub invariant_of-result : goal.invariant_of-result
invariant_of-result c =
    let top = c.in-Some.top in
    record {
      first = first_columns c.args.p.now c.requires c.in_ok-columns.columns.items top c.in_ok-columns.ensures.columns
          c.in-Some.ensures.some (subst (λ (cs : List FirstColumn). (j : ℕ) → j < length cs →
          sizes_in (cells_at cs j) ≤ top) c.as_slice.ensures.value c.in-Some.ensures.top);
    }
