-- What clauses see of the table of a run: its shape and its value.
use Rattle.std.specs.Prelude.{◌≡◌, ◌≢◌, ℕ, ◌≤◌, List, get_or, ℤ, pos, unsigned_abs}
use Rattle.stack_rational.specs.Laws.{widest}
use Rattle.stack_rows.specs.RowForm.{number_at}
use Rattle.stack_algebra.specs.Fraction.{Fraction}
use Rattle.stack_algebra.proofs.OrderedFractions.{ordered_fractions}
use Rattle.stack_table.specs.Table.{Shape, Tabled, with_objective}
use Rattle.stack_table.specs.Block.{shape_of}
use Rattle.stack_inverse.specs.declared.revised_table.RevisedTable.{RevisedTable}
use Rattle.stack_inverse.specs.Columns.{multipliers, cell_with, revised_number, AreEntered}
use Rattle.stack_inverse.specs.RowsSeen.{seen_at, cells_of_rows}
use Rattle.stack_rows.specs.Marks.{mark_in}

-- the numbers of rows, of contact columns and of factor columns
abbrev pub shape_of_revised : RevisedTable → Shape
shape_of_revised t = shape_of t.first.rows t.contacts t.has_factor

-- the denominator of row i
abbrev pub under_in : RevisedTable → ℕ → ℤ
under_in t i = (seen_at t.rows.items i).under

-- the number in row i and column j, over the denominator of the row
abbrev pub number_in : RevisedTable → ℕ → ℕ → ℤ
number_in t i j = revised_number t.first.rows t.first.columns.items (seen_at t.rows.items) i j

-- the numbers of a column, row by row, are kept, and fit as the right sides do; a row without a mark has 0 there
pub record IsEntered (t : RevisedTable) (column : ℕ) : Type 0 where
  pub numbers : AreEntered t.first.rows t.first.columns.items (seen_at t.rows.items)
      column t.entered.items
  pub fit : (i : ℕ) → i ≤ t.first.rows → unsigned_abs (number_at t.entered.items i) ≤ unsigned_abs widest
  pub right_fits : (i : ℕ) → i ≤ t.first.rows → number_at t.entered.items i ≢ pos 0 →
      unsigned_abs (number_at (seen_at t.rows.items i).numbers (multipliers t.first.rows)) ≤ unsigned_abs widest
  pub touched : (i : ℕ) → i ≤ t.first.rows → mark_in t.marking.to_visit.touched.words.items i ≡ 0 →
      number_at t.entered.items i ≡ pos 0

-- the cells as exact fractions by row and column, and the basic column of each row
abbrev pub table_of_revised : RevisedTable → Tabled Fraction
table_of_revised t = record {
  cell = cells_of_rows t.first t.rows.items;
  basic = λ i. get_or t.basic.items i 0;
}

-- u is the table t, but that these numbers over d stand in the place of its objective row
abbrev pub IsObjectivePut : (t : RevisedTable) (row : List ℤ) (d : ℤ) (u : RevisedTable) → Type 0
IsObjectivePut t row d u = (f : ℕ → Fraction) →
    ((j : ℕ) → cell_with t.first.rows t.first.columns.items row d j ≡ f j) →
    table_of_revised u ≡ with_objective ordered_fractions (shape_of_revised t) (table_of_revised t) f
