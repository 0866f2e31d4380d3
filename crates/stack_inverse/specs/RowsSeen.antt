-- What is seen of the rows of a table, and of the pivot row.
use Rattle.std.specs.Prelude.{◌≡◌, ℕ, suc, ◌+◌, List, length, ℤ}
use Rattle.stack_algebra.specs.Fraction.{Fraction}
use Rattle.stack_inverse.specs.declared.first.First.{First}
use Rattle.stack_inverse.specs.declared.row.TableRow.{TableRow}
use Rattle.stack_inverse.specs.declared.row.PivotRow.{PivotRow}
use Rattle.stack_inverse.specs.RowBlock.{AreWithin, IsReduced}
use Rattle.stack_rows.specs.RowForm.{number_at}
use Rattle.stack_rows.specs.RowSeen.{numbers_of}
use Rattle.stack_inverse.specs.Columns.{RowSeen, at_value, no_row, multipliers, number_with, cell_with, revised_cell}

-- a row, and row i
abbrev pub seen_of : TableRow → RowSeen
seen_of r = record { numbers = numbers_of r.row; under = r.row.under; fits = r.fits }

abbrev pub seen_at : List TableRow → ℕ → RowSeen
seen_at rows i = at_value seen_of no_row rows i

-- the number and the cell of a row in any column
abbrev pub number_in_row : First → RowSeen → ℕ → ℤ
number_in_row f r j = number_with f.rows f.columns.items r.numbers j

abbrev pub cell_in_row : First → RowSeen → ℕ → Fraction
cell_in_row f r j = cell_with f.rows f.columns.items r.numbers r.under j

-- the cells of rows
abbrev pub cells_of_rows : First → List TableRow → ℕ → ℕ → Fraction
cells_of_rows f rows = revised_cell f.rows f.columns.items (seen_at rows)

-- how many columns a row has, the right side among them
abbrev pub columns_of : First → ℕ
columns_of f = suc (length f.columns.items + f.rows)

-- the cell of the pivot row in a column
abbrev pub pivot_cell : First → PivotRow → ℕ → Fraction
pivot_cell f q j = cell_with f.rows f.columns.items (numbers_of q.divided.row) q.divided.row.under j

-- row i is reduced by the pivot row, and keeps its zeros
abbrev pub IsReducedBy : ℤ → First → RowSeen → PivotRow → (i column : ℕ) → RowSeen → Type 0
IsReducedBy m f old q i column new = IsReduced m f.rows f.columns.items old.numbers old.under (numbers_of q.divided.row)
    q.divided.row.under i column new.numbers new.under

-- no number that is made of a pivot row is greater in size than its top, and none that it keeps
pub record IsPivotRow (f : First) (q : PivotRow) : Type 0 where
  pub width : length (numbers_of q.divided.row) ≡ suc (multipliers f.rows)
  pub within : AreWithin (number_with f.rows f.columns.items (numbers_of q.divided.row)) q.whole_top
  pub kept : AreWithin (number_at (numbers_of q.divided.row)) q.whole_top
