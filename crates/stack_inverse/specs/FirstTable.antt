-- The first rows of a problem in columns of cells, and the table with which a run begins.
use Rattle.std.specs.Prelude.{◌≡◌, ℕ, suc, ◌+◌, ◌<◌, ⊤, Bool, cond, eqb, List, [], ◌∷◌, ◌++◌, length, get_or, ℤ, pos}
use Rattle.std.specs.Prelude.{negsuc, ◌-ℤ◌, unsigned_abs}
use Rattle.stack_algebra.specs.Sums.{sum_to, sum_of, sum_among}
use Rattle.stack_table.specs.declared.problem.Entry.{Entry}
use Rattle.stack_table.specs.declared.problem.Problem.{Problem as Lent}
use Rattle.stack_table.specs.Problem.{is_below_zero, turned}
use Rattle.stack_table.specs.Lent.{entries_at}
use Rattle.stack_inverse.specs.declared.columns.Cell.{Cell}
use Rattle.stack_inverse.specs.declared.columns.FirstColumn.{FirstColumn}
use Rattle.stack_rows.specs.RowForm.{number_at}
use Rattle.stack_inverse.specs.Columns.{RowSeen, multipliers, cells_at}

-- whether a row is flipped, by the right sides
abbrev pub flips : List ℤ → ℕ → Bool
flips right i = is_below_zero (get_or right i (pos 0))

-- the right side of a row, flipped as the row is
abbrev pub load_at : List ℤ → ℕ → ℤ
load_at right i = turned (flips right i) (get_or right i (pos 0))

-- cells are the entries of a column, each flipped as its row is
abbrev pub AreTurned : List ℤ → List Entry → List Cell → Type 0
AreTurned right [] [] = ⊤
AreTurned right [] (c ∷ cs) = ⊥
AreTurned right (x ∷ xs) [] = ⊥
AreTurned right (x ∷ xs) (c ∷ cs) =
    (c.row ≡ x.row) × (c.value ≡ turned (flips right x.row) x.value) × AreTurned right xs cs

-- minus the sum of the values of cells
abbrev pub less_cells : List Cell → ℤ
less_cells cells = pos 0 -ℤ sum_of (λ x. x.value) cells

-- the costs of a column: in phase 1, and in phase 3 -1 in the factor's column alone
abbrev pub costs_of : (m : ℕ) (is_factor : Bool) (cost : ℤ) → List Cell
costs_of m is_factor cost = record { row = m; value = cost }
    ∷ cond is_factor (record { row = suc m; value = negsuc 0 } ∷ []) []

-- cells are the entries of a column, each flipped as its row is; below them stand its costs, in phase 1 minus the sum
-- of their values
pub record HasCosts (m : ℕ) (right : List ℤ) (is_factor : Bool) (entries : List Entry) (cells : List Cell)
    : Type 0 where
  pub values : List Cell
  pub turned : AreTurned right entries values
  pub costs : cells ≡ values ++ costs_of m is_factor (less_cells values)

-- so in each column
abbrev pub AreFirstColumns : Lent → List FirstColumn → Type 0
AreFirstColumns P columns = (j : ℕ) → j < length columns → HasCosts P.rows P.right.items
    (eqb j (length P.contact.items)) (entries_at P j) (cells_at columns j)

-- the sum of the sizes of cells
abbrev pub sizes_in : List Cell → ℕ
sizes_in cells = sum_among 0 ◌+◌ (λ x. unsigned_abs x.value) cells

-- row i, of multipliers and a right side: 1 in its own artificial column, over 1
pub record IsFirstRow (m : ℕ) (s : ℕ → RowSeen) (i : ℕ) (load : ℤ) : Type 0 where
  pub number : (j : ℕ) → number_at (s i).numbers j
      ≡ cond (eqb j (multipliers m)) load (cond (eqb j i) (pos 1) (pos 0))
  pub under : (s i).under ≡ pos 1

-- minus the sum of the right sides of the first n rows
abbrev pub less_loads : List ℤ → ℕ → ℤ
less_loads right n = pos 0 -ℤ sum_to n (load_at right)

-- the first m rows, and after them the objective row of phase 1, once its costs, each over 1
pub record AreFilled (m : ℕ) (right : List ℤ) (s : ℕ → RowSeen) : Type 0 where
  pub rows : (i : ℕ) → i < m → IsFirstRow m s i (load_at right i)
  pub last : (j : ℕ) → number_at (s m).numbers j
      ≡ cond (eqb j (multipliers m)) (less_loads right m) (cond (eqb j m) (pos 1) (pos 0))
  pub under : (s m).under ≡ pos 1
