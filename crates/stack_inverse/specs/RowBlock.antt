-- Rows of a table: tops of their numbers, and what a pivot makes of them.
use Rattle.std.specs.Prelude.{◌≡◌, ℕ, suc, ◌+◌, ◌*◌, ◌<◌, ◌≤◌, true, None, List, length, ℤ, pos, unsigned_abs}
use Rattle.stack_algebra.specs.Fraction.{Fraction}
use Rattle.stack_algebra.specs.Rows.{next}
use Rattle.stack_algebra.proofs.OrderedFractions.{ordered_fractions}
use Rattle.stack_rational.specs.TooWide.{fraction_fits, is_too_wide}
use Rattle.stack_table.specs.Spots.{divided, reduced, divide_item, reduce_spot, cells_spot}
use Rattle.stack_rows.specs.RowForm.{number_at, StepFits}
use Rattle.stack_inverse.specs.declared.columns.FirstColumn.{FirstColumn}
use Rattle.stack_inverse.specs.Columns.{RowSeen, multipliers, number_with, cell_with}

-- no number is greater than b in size
abbrev pub AreWithin : (ℕ → ℤ) → ℕ → Type 0
AreWithin f b = (j : ℕ) → unsigned_abs (f j) ≤ b

-- a top of all numbers of a row, by those of its multipliers and of the columns
pub record IsWholeTop (m : ℕ) (row : List ℤ) (column_top b : ℕ) : Type 0 where
  pub top : ℕ
  pub each : (r : ℕ) → r < multipliers m → unsigned_abs (number_at row r) ≤ top
  pub right : unsigned_abs (number_at row (multipliers m)) ≤ b
  pub product : top * column_top ≤ b

-- cells fit
abbrev pub AllNumbersFit : ℤ → (ℕ → Fraction) → Type 0
AllNumbersFit m cell = (j : ℕ) → fraction_fits m (cell j) ≡ true

-- in a row that is known to fit no cell is too wide for m
abbrev pub AreFitting : ℤ → (ℕ → ℕ → Fraction) → (ℕ → RowSeen) → Type 0
AreFitting m cell s = (i : ℕ) → (s i).fits ≡ true → AllNumbersFit m (cell i)

-- the numbers of a row over d fit m after a step, by a top of all its numbers and one of the pivot row's
pub record FitsByTop (m : ℤ) (rows : ℕ) (row : List ℤ) (d : ℤ) (column_top : ℕ) (k t : ℤ) (p : ℕ) : Type 0 where
  pub whole_top : ℕ
  pub is_whole_top : IsWholeTop rows row column_top whole_top
  pub fitting : StepFits m d k t whole_top p

-- what is 0 in a row and in the pivot row stays 0; so does all that is 0 in the row, if its number in the pivot's
-- column, f, is 0
pub record KeepsZeros (old pivot : List ℤ) (f : ℤ) (new : List ℤ) : Type 0 where
  pub both : (q : ℕ) → number_at old q ≡ pos 0 → number_at pivot q ≡ pos 0 → number_at new q ≡ pos 0
  pub bare : f ≡ pos 0 → (q : ℕ) → number_at old q ≡ pos 0 → number_at new q ≡ pos 0

-- row i is reduced by the row g, its cells fit and nothing that is written is too wide
pub record IsReducedRow (m : ℤ) (width : ℕ) (old g : ℕ → Fraction) (i column : ℕ) (new : ℕ → Fraction) : Type 0 where
  pub own : (j : ℕ) → new j ≡ reduced ordered_fractions old g (old column) j
  pub fits : AllNumbersFit m new
  pub none : reduce_spot ordered_fractions (is_too_wide m) width old g (old column) i ≡ None

-- row i of these numbers over d is reduced by the pivot row over e, and keeps its zeros
pub record IsReduced (m : ℤ) (rows : ℕ) (columns : List FirstColumn) (row : List ℤ) (d : ℤ) (pivot : List ℤ) (e : ℤ)
    (i column : ℕ) (new : List ℤ) (after : ℤ) : Type 0 where
  pub cells : IsReducedRow m (suc (length columns + rows)) (cell_with rows columns row d)
      (cell_with rows columns pivot e) i column (cell_with rows columns new after)
  pub zeros : KeepsZeros row pivot (number_with rows columns row column) new

-- the pivot row is divided, its cells fit and nothing that is written is too wide
pub record IsDividedRow (m : ℤ) (old : ℕ → Fraction) (column : ℕ) (new : ℕ → Fraction) : Type 0 where
  pub cell : (j : ℕ) → new j ≡ divided ordered_fractions old (old column) j
  pub none : (row j : ℕ) → divide_item ordered_fractions (is_too_wide m) old (old column) row j ≡ None
  pub fits : (j : ℕ) → fraction_fits m (new j) ≡ true

-- the cells after a pivot, in which nothing written is too wide for m
pub record IsPivotedCells (m : ℤ) (height width : ℕ) (old : ℕ → ℕ → Fraction) (row column : ℕ)
    (new : ℕ → ℕ → Fraction) : Type 0 where
  pub cell : (i j : ℕ) → new i j ≡ next ordered_fractions old row column i j
  pub none : cells_spot ordered_fractions (is_too_wide m) height width old row column ≡ None
