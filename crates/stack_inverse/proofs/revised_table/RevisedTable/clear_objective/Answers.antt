use Rattle.std.proofs.Common.{ap, ◌∙◌, List, ℤ, pos}
use Rattle.stack_rational.proofs.Common.{with_items, of}
use Rattle.stack_rows.specs.RowForm.{number_at}
use Rattle.stack_inverse.proofs.PutRow.{written}
use Rattle.stack_inverse.proofs.ObjectivePut.{zero_row_is}
use Rattle.stack_inverse.proofs.revised_table.RevisedTable.clear_objective.Goals as goal

pub returns-clause-ok : goal.returns-clause-ok
returns-clause-ok c =
    let s = c.args.self.now in
    c.put_objective.ensures.table (λ j. of (pos 0)) (zero_row_is s.first.rows s.first.columns.items
    (with_items s.entered c.clear_row.new.row).items (λ j. ap (λ (xs : List ℤ). number_at xs j)
    (written s.entered c.clear_row.new.row c.as_mut_slice.ensures.value c.clear_row.auto.row) ∙ c.clear_row.ensures j))
