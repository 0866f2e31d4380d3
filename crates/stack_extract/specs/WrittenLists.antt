-- The lists of numbers that each end is read from, in the written order, with the signs that they have in the
-- last table.
use Rattle.std.specs.Prelude.{ℕ, suc, ◌+◌, cond, ltb, List}
use lib.IntN.{pos}
use Rattle.stack_algebra.specs.Listed.{listed}
use Rattle.stack_algebra.specs.Fraction.{Fraction}
use Rattle.stack_algebra.specs.Rows.{less}
use Rattle.stack_algebra.proofs.Fractions.{of}
use Rattle.stack_algebra.proofs.OrderedFractions.{ordered_fractions}
use Rattle.stack_table.specs.Table.{Shape, Tabled, plain, objective}
use Rattle.stack_run.specs.EndNumbers.{column_value, rate}

module _ (S : Shape) (T : Tabled Fraction) where
  -- the value of column j; 0 for the factor if it has no column
  abbrev pub forces_number : ℕ → Fraction
  forces_number j = cond (ltb j (plain S)) (column_value ordered_fractions S T j) (of (pos 0))

  -- the values of the contact columns, and then of the factor
  abbrev pub forces_list : List Fraction
  forces_list = listed (suc S.contacts) forces_number

  -- the rate of column j on the ray of column c; 0 for the factor if it has no column
  abbrev pub ray_number : ℕ → ℕ → Fraction
  ray_number c j = cond (ltb j (plain S)) (rate ordered_fractions S T c j) (of (pos 0))

  -- the rates on the ray of column c of the contact columns, and then of the factor
  abbrev pub ray_list : ℕ → List Fraction
  ray_list c = listed (suc S.contacts) (ray_number c)

  -- for each row the objective cell of its artificial column
  abbrev pub bound_number : ℕ → Fraction
  bound_number k = objective ordered_fractions S T (plain S + k)

  -- the objective cells of the artificial columns of all rows, in order
  abbrev pub bound_list : List Fraction
  bound_list = listed S.rows bound_number

  -- the objective cell of a row's artificial column minus 1, as in phase 1
  abbrev pub collapse_number : ℕ → Fraction
  collapse_number k = less ordered_fractions (bound_number k) (of (pos 1))

  -- the objective cells of the artificial columns of all rows, in order, each minus 1
  abbrev pub collapse_list : List Fraction
  collapse_list = listed S.rows collapse_number
