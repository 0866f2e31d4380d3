-- The table of a problem over an ordered field: its cells by row and column, its basic columns, its pivot and
-- its later objective rows. Row `rows` is the objective row, column `columns` the right side. The run and its
-- laws stand on these words.
use Rattle.std.specs.Prelude.{ℕ, suc, ◌+◌, cond, eqb, Option, Some, None}
use lib.IntN.{pos, negsuc}
use Rattle.stack_algebra.specs.Ordered.{Ordered}
use Rattle.stack_algebra.specs.Rows.{changed, next}
use Rattle.stack_algebra.specs.Search.{least}
use Rattle.stack_algebra.specs.Sums.{at}

-- the numbers of rows, of contact columns and of factor columns (0 or 1); no step changes them
pub record Shape : Type 0 where
  pub rows : ℕ
  pub contacts : ℕ
  pub factors : ℕ

-- the columns that aren't artificial: the contact columns, and the factor's after them
abbrev pub plain : Shape → ℕ
plain S = S.contacts + S.factors

-- all columns but the right side: the plain ones, and an artificial one for each row
abbrev pub columns : Shape → ℕ
columns S = plain S + S.rows

-- the cells of a row, with the right side
abbrev pub width : Shape → ℕ
width S = suc (columns S)

-- a table: the cells by row and column, and the basic column of each row
pub record Tabled (C : Type 0) : Type 0 where
  pub cell : ℕ → ℕ → C
  pub basic : ℕ → ℕ

-- the objective of the third phase, by the row in which the factor is basic: that row, but 0 in the factor's
-- column; without such a row, -1 in the factor's column alone
abbrev pub factor_row : (F : Ordered) → (ℕ → ℕ → F.C) → (column : ℕ) → Option ℕ → ℕ → F.C
factor_row F cell column (Some r) j = cond (eqb j column) (F.of (pos 0)) (cell r j)
factor_row F cell column None j = at F.ring column (F.of (negsuc 0)) j

module _ (F : Ordered) (S : Shape) where
  -- the right side of a row
  abbrev pub right : Tabled F.C → ℕ → F.C
  right T i = T.cell i (columns S)

  -- the objective cell of a column
  abbrev pub objective : Tabled F.C → ℕ → F.C
  objective T j = T.cell S.rows j

  -- the table after a pivot at row r and column c
  abbrev pub pivoted_at : Tabled F.C → ℕ → ℕ → Tabled F.C
  pivoted_at T r c = record { cell = next F T.cell r c; basic = changed T.basic r c }

  -- the table with a new objective row
  abbrev pub with_objective : Tabled F.C → (ℕ → F.C) → Tabled F.C
  with_objective T o = record { cell = changed T.cell S.rows o; basic = T.basic }

  -- the objective row of the third phase, by the row in which the factor is basic
  abbrev pub factor_objective : Tabled F.C → Option ℕ → ℕ → F.C
  factor_objective T row = factor_row F T.cell S.contacts row

  -- the table of the second phase, whose objective row is 0
  abbrev pub clear_objective : Tabled F.C → Tabled F.C
  clear_objective T = with_objective T (λ j. F.of (pos 0))

  -- the table of the third phase, whose objective row is that of the factor
  abbrev pub set_factor_objective : Tabled F.C → Tabled F.C
  set_factor_objective T = with_objective T
      (factor_objective T (least S.rows (λ r. eqb (T.basic r) S.contacts)))
