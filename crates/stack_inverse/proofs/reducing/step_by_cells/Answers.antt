use Rattle.std.proofs.Common.{◌≡◌, sym, ◌∙◌, ℕ}
use Rattle.stack_rational.proofs.Common.{over, ordered_fractions, is_too_wide, widest}
use Rattle.stack_table.specs.Spots.{reduce_spot}
use Rattle.stack_inverse.specs.declared.first.First.{First}
use Rattle.stack_inverse.specs.declared.row.TableRow.{TableRow}
use Rattle.stack_inverse.specs.declared.row.PivotRow.{PivotRow}
use Rattle.stack_inverse.specs.declared.spots.RowStep.{RowStep}
use Rattle.stack_rows.specs.RowSeen.{numbers_of}
use Rattle.stack_inverse.specs.Columns.{cell_with}
use Rattle.stack_inverse.specs.RowsSeen.{seen_of, cell_in_row, pivot_cell, columns_of}
use Rattle.stack_inverse.proofs.reducing.step_by_cells.Goals as goal

-- what is looked through are the cells of both rows
looked : (f : First) (s : RowStep) (r : TableRow) (q : PivotRow) (i : ℕ) → s.under ≡ r.row.under →
    s.pivot_under ≡ q.divided.row.under →
    reduce_spot ordered_fractions (is_too_wide widest) (columns_of f) (cell_in_row f (seen_of r)) (pivot_cell f q)
    (over s.number s.under) i ≡ reduce_spot ordered_fractions (is_too_wide widest) (columns_of f)
    (cell_with f.rows f.columns.items (numbers_of r.row) s.under)
    (cell_with f.rows f.columns.items (numbers_of q.divided.row) s.pivot_under) (over s.number s.under) i
looked f s r q i hu hp = sym (λ z. reduce_spot ordered_fractions (is_too_wide widest) (columns_of f)
    (cell_with f.rows f.columns.items (numbers_of r.row) (hu z))
    (cell_with f.rows f.columns.items (numbers_of q.divided.row) (hp z)) (over s.number s.under) i)

pub returns-in-This-clause-refused : goal.returns-in-This-clause-refused
returns-in-This-clause-refused c = looked c.args.first.now c.args.s.now c.args.row.now c.args.pivot.now c.args.i
    c.requires.under c.requires.pivot_under ∙ sym c.in-This.ensures

pub returns-in-Some-clause-none : goal.returns-in-Some-clause-none
returns-in-Some-clause-none c = looked c.args.first.now c.args.s.now c.args.row.now c.args.pivot.now c.args.i
    c.requires.under c.requires.pivot_under ∙ sym c.in-Nothing.ensures
