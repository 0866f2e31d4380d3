-- The problem as it is lent, in columns of entries: as index functions, and the condition of its table.
use Rattle.std.specs.Prelude.{◌≡◌, ℕ, ◌^◌, ◌<◌, ◌≤◌, cond, eqb, ltb, Option, Some, None, List, [], ◌∷◌, map, length}
use Rattle.std.specs.Prelude.{get_or, ℤ, pos, unsigned_abs}
use Rattle.std.specs.List.{AllByRecursion}
use Rattle.std.specs.List.Sorted.{IsStrictlyIncreasing}
use Rattle.stack_whole.specs.Limits.{most_rows, most_contact_columns, IsBelowBound}
use Rattle.stack_table.specs.declared.problem.Entry.{Entry}
use Rattle.stack_table.specs.declared.problem.Column.{Column}
use Rattle.stack_table.specs.declared.problem.Problem.{Problem as Lent}
use Rattle.stack_table.specs.declared.problem.BuildError.{BuildError}
use Rattle.stack_table.specs.declared.problem.BuildError.TheVariants.{Wide, Memory}
use Rattle.stack_table.specs.Table.{Shape}
use Rattle.stack_table.specs.Problem.{Problem}

-- the value in a row, 0 where no entry stands there
abbrev pub entry_in : List Entry → ℕ → ℤ
entry_in [] i = pos 0
entry_in (x ∷ xs) i = cond (eqb x.row i) x.value (entry_in xs i)

-- the factor column, if there is one
abbrev pub factor_count : Option Column → ℕ
factor_count None = 0
factor_count (Some c) = 1

-- what stands in the factor column; nothing where the problem has none
abbrev pub factor_entries : Option Column → List Entry
factor_entries None = []
factor_entries (Some c) = c.entries.items

-- the entries of column j: the contact columns, then the factor
abbrev pub entries_at : Lent → ℕ → List Entry
entries_at P j = cond (ltb j (length P.contact.items))
    (get_or (map (λ c. c.entries.items) P.contact.items) j [])
    (cond (eqb j (length P.contact.items)) (factor_entries P.factor) [])

-- the shape of a problem: its rows, its contact columns, and whether it has a factor column
abbrev pub shape_of_problem : Lent → Shape
shape_of_problem P = record {
  rows = P.rows;
  contacts = length P.contact.items;
  factors = factor_count P.factor;
}

-- the problem that is lent
abbrev pub problem_of : Lent → Problem
problem_of P = record {
  shape = shape_of_problem P;
  entry = λ i j. entry_in (entries_at P j) i;
  load = λ i. get_or P.right.items i (pos 0);
}

-- entries in rows below `rows` that rise strictly, with small values
pub record IsColumn (rows : ℕ) (entries : List Entry) : Type 0 where
  pub below : AllByRecursion (λ x. x.row < rows) entries
  pub rising : IsStrictlyIncreasing (map (λ x. x.row) entries)
  pub small : AllByRecursion (λ x. IsBelowBound x.value) entries

-- the condition of a table
pub record IsProblem (P : Lent) : Type 0 where
  pub rows_few : P.rows ≤ most_rows
  pub contacts_few : length P.contact.items ≤ most_contact_columns
  pub contact_columns : AllByRecursion (λ c. IsColumn P.rows c.entries.items) P.contact.items
  pub factor_column : IsColumn P.rows (factor_entries P.factor)
  pub right_long : length P.right.items ≡ P.rows
  pub right_small : AllByRecursion IsBelowBound P.right.items

-- what an error of `build` says of the first place that is too wide
abbrev pub TellsFirst : BuildError → Option BuildError → Type 0
TellsFirst (Wide i j) o = o ≡ Some (Wide i j)
TellsFirst Memory o = Unit {0}

-- a greatest value that no number and no partial difference of such a problem is too wide; that of 128 bits is one
abbrev pub IsAmple : ℤ → Type 0
IsAmple m = 2 ^ 110 ≤ unsigned_abs m
