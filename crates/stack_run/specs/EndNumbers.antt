-- The numbers that a last table shows: the value of each column, its rate on a ray, and multipliers of the
-- problem's rows.
use Rattle.std.specs.Prelude.{ℕ, ◌+◌, Bool, cond, eqb, Option, Some, None}
use lib.IntN.{pos}
use Rattle.stack_algebra.specs.Ordered.{Ordered}
use Rattle.stack_algebra.specs.Rows.{less}
use Rattle.stack_algebra.specs.Search.{least}
use Rattle.stack_table.specs.Table.{Shape, Tabled, plain, right, objective}
use Rattle.stack_table.specs.Problem.{Problem, flipped}

module _ (F : Ordered) (S : Shape) (T : Tabled F.C) where
  -- the row in which a column is basic
  abbrev pub basic_row : ℕ → Option ℕ
  basic_row j = least S.rows (λ i. eqb (T.basic i) j)

  -- the value of a column: the right side of that row, and 0 without one
  abbrev pub value_in : Option ℕ → F.C
  value_in None = F.of (pos 0)
  value_in (Some i) = right F S T i

  -- what the table gives column j where each column that isn't basic has 0
  abbrev pub column_value : ℕ → F.C
  column_value j = value_in (basic_row j)

  -- the rate of a column on the ray of column c: 1 for c, less the row's cell in c for a basic column, else 0
  abbrev pub rate_in : ℕ → Option ℕ → F.C
  rate_in c None = F.of (pos 0)
  rate_in c (Some i) = F.neg (T.cell i c)

  -- how column j changes as column c rises by 1 and no other column outside the basis changes
  abbrev pub rate : ℕ → ℕ → F.C
  rate c j = cond (eqb j c) (F.of (pos 1)) (rate_in c (basic_row j))

module _ (F : Ordered) where
  -- a number with the other sign, or as it is
  abbrev pub negated_if : Bool → F.C → F.C
  negated_if b x = cond b (F.neg x) x

  module _ (P : Problem) (T : Tabled F.C) where
    -- multipliers of the problem's rows, at the end of phase 3: the objective cell of each row's artificial
    -- column, with the other sign where the row is flipped
    abbrev pub bound_multiplier : ℕ → F.C
    bound_multiplier k = negated_if (flipped P k) (objective F P.shape T (plain P.shape + k))

    -- multipliers of the problem's rows, at the end of phase 1: the objective cell of each row's artificial column less
    -- 1, with the other sign where the row is flipped
    abbrev pub collapse_multiplier : ℕ → F.C
    collapse_multiplier k =
        negated_if (flipped P k) (less F (objective F P.shape T (plain P.shape + k)) (F.of (pos 1)))
