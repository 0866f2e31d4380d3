-- The written table of a problem, over an ordered field: the rows in order, flipped where the right side is
-- negative; then the objective row. And the place of its first number or partial difference that is too wide.
use Rattle.std.specs.Prelude.{ℕ, zero, suc, ◌+◌, Bool, cond, eqb, ltb, leb, ◌&&◌, Option, None, ℤ, pos}
use Rattle.stack_algebra.specs.Ordered.{Ordered}
use Rattle.stack_algebra.specs.Rows.{changed, less}
use Rattle.stack_algebra.specs.Search.{first, or_else, only_if}
use Rattle.stack_rational.specs.declared.exact.Op.{Op}
use Rattle.stack_rational.specs.declared.exact.Op.TheVariants.{Whole, Difference}
use Rattle.stack_table.specs.declared.problem.BuildError.{BuildError}
use Rattle.stack_table.specs.declared.problem.BuildError.TheVariants.{Wide}
use Rattle.stack_table.specs.Table.{Shape, Tabled, plain, columns, width}
use Rattle.stack_table.specs.Problem.{Problem, flipped, turned}

-- the number in row i and column j: plain columns, artificial columns, the right side. An artificial column has
-- 1 in its own row, and isn't flipped
abbrev pub written_number : Problem → ℕ → ℕ → ℤ
written_number P i j = cond (ltb j (plain P.shape)) (turned (flipped P i) (P.entry i j))
    (cond (ltb j (columns P.shape)) (cond (eqb j (plain P.shape + i)) (pos 1) (pos 0))
    (cond (eqb j (columns P.shape)) (turned (flipped P i) (P.load i)) (pos 0)))

-- whether a column is artificial
abbrev pub is_artificial : Shape → ℕ → Bool
is_artificial S j = leb (plain S) j && ltb j (columns S)

-- the basic column of a row is its artificial column; 0 past the last row
abbrev pub first_basic : Problem → ℕ → ℕ
first_basic P i = cond (ltb i P.shape.rows) (plain P.shape + i) 0

module _ (F : Ordered) where
  -- 0 minus the first n numbers, in rising order
  abbrev pub less_all : ℕ → (ℕ → F.C) → F.C
  less_all zero f = F.of (pos 0)
  less_all (suc n) f = less F (less_all n f) (f n)

  -- the objective row over given cells: 0 in the artificial columns, elsewhere 0 less row 0, less row 1 and so
  -- on
  abbrev pub objective_over : Shape → (ℕ → ℕ → F.C) → ℕ → F.C
  objective_over S cell j = cond (is_artificial S j) (F.of (pos 0)) (less_all S.rows (λ i. cell i j))

module _ (F : Ordered) (P : Problem) where
  -- row i of the written table, where it is not the objective row
  abbrev pub first_row : ℕ → ℕ → F.C
  first_row i j = F.of (written_number P i j)

  -- the objective row over the first rows, with which phase 1 begins
  abbrev pub first_objective : ℕ → F.C
  first_objective = objective_over F P.shape first_row

  -- the written table of a problem
  abbrev pub written_table : Tabled F.C
  written_table = record {
    cell = changed first_row P.shape.rows first_objective;
    basic = first_basic P;
  }

module _ (F : Ordered) (is_too_wide : Op → F.C → F.C → Bool) where
  -- the place, if the difference of 0 minus the first i numbers and number i is too wide
  abbrev pub partial_place : BuildError → (ℕ → F.C) → ℕ → Option BuildError
  partial_place place f i = only_if (is_too_wide Difference (less_all F i f) (f i)) place

  -- the first partial difference of column j of the objective row that is too wide, over given cells
  abbrev pub objective_place : Shape → (ℕ → ℕ → F.C) → ℕ → Option BuildError
  objective_place S cell j = cond (is_artificial S j) None
      (first S.rows (partial_place (Wide S.rows j) (λ i. cell i j)))

  -- the first partial difference of the objective row that is too wide, column by column
  abbrev pub objective_places : Shape → (ℕ → ℕ → F.C) → Option BuildError
  objective_places S cell = first (width S) (objective_place S cell)

  module _ (P : Problem) where
    -- the place in row i and column j, where the number there is too wide
    abbrev pub number_place : ℕ → ℕ → Option BuildError
    number_place i j = only_if (is_too_wide Whole (first_row F P i j) (first_row F P i j)) (Wide i j)

    -- the first number of row i that is too wide, the right side last
    abbrev pub row_place : ℕ → Option BuildError
    row_place i = first (width P.shape) (number_place i)

    -- the first place of the whole table that is too wide, in the written order
    abbrev pub wide_place : Option BuildError
    wide_place = or_else (first P.shape.rows row_place) (objective_places P.shape (first_row F P))
