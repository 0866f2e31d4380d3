-- A table whose rows are kept in their multipliers and their right side alone: the numbers in the plain columns are
-- made from the first rows, below which two rows of costs stand: the objective of phase 1, and that of phase 3.
use Rattle.std.specs.Prelude.{◌≡◌, ℕ, suc, ◌+◌, ◌-◌, ◌<◌, ◌≤◌, Bool, true, false, leb, ◌&&◌, cond, eqb, ltb, List, []}
use Rattle.std.specs.Prelude.{◌∷◌, length, get_or, map, ℤ, pos, negsuc, Option, Some, None}
use Rattle.std.specs.Prelude.{◌*ℤ◌, ◌+ℤ◌, unsigned_abs}
use Rattle.stack_algebra.specs.Fraction.{Fraction}
use Rattle.stack_algebra.specs.Sums.{sum_to, sum_below}
use Rattle.stack_algebra.proofs.Over.{over}
use Rattle.stack_inverse.specs.declared.columns.Cell.{Cell}
use Rattle.stack_inverse.specs.declared.columns.FirstColumn.{FirstColumn}
use Rattle.stack_rows.specs.RowForm.{number_at}

-- the value of item k, z past the last item
abbrev pub at_value : {V C : Type 0} → (V → C) → C → List V → ℕ → C
at_value e z xs k = get_or (map e xs) k z

-- the number of a row in a column f of the first rows
abbrev pub combined : ℕ → (ℕ → ℤ) → (ℕ → ℤ) → ℤ
combined m a f = sum_to m (λ r. a r *ℤ f r)

-- the sum of the sizes of a column
abbrev pub sizes : ℕ → (ℕ → ℤ) → ℕ
sizes m f = sum_below 0 ◌+◌ m (λ r. unsigned_abs (f r))

-- a number, by the kind of its column: plain, artificial, the right side, or past it
abbrev pub by_place : (plain artificial last : Bool) → (x y z : ℤ) → ℤ
by_place b c d x y z = cond b x (cond c y (cond d z (pos 0)))

-- how many multipliers a row has: one for each of m first rows, and one for each row of costs
abbrev pub multipliers : ℕ → ℕ
multipliers m = suc (suc m)

-- m rows, n plain columns, and the first rows and costs in these: the number of a row with these multipliers and right
-- side. The multipliers of the first m rows are its numbers in the artificial columns.
abbrev pub number : (m n : ℕ) (F : ℕ → ℕ → ℤ) (a : ℕ → ℤ) (s : ℤ) → ℕ → ℤ
number m n F a s j = by_place (ltb j n) (ltb j (n + m)) (eqb j (n + m))
    (combined (multipliers m) a (λ r. F r j)) (a (j - n)) s

-- the number in a row of a column of cells, 0 if none stands there
abbrev pub entry_of : List Cell → ℕ → ℤ
entry_of [] i = pos 0
entry_of (x ∷ xs) i = cond (eqb x.row i) x.value (entry_of xs i)

-- each cell stands below m, in a row from `from` on that is below those of the cells after it
abbrev pub rises : (m from : ℕ) → List Cell → Bool
rises m from [] = true
rises m from (x ∷ xs) = leb from x.row && (ltb x.row m && rises m (suc x.row) xs)

-- the cells of column j
abbrev pub cells_at : List FirstColumn → ℕ → List Cell
cells_at columns j = at_value (λ c. c.cells.items) [] columns j

-- the first rows
abbrev pub first_at : List FirstColumn → ℕ → ℕ → ℤ
first_at columns r j = entry_of (cells_at columns j) r

-- columns of m first rows and of costs, none of which has a greater sum of sizes than `column_top`
pub record AreFirst (m n : ℕ) (columns : List FirstColumn) (column_top : ℕ) : Type 0 where
  pub rising : (j : ℕ) → j < n → rises (multipliers m) 0 (cells_at columns j) ≡ true
  pub within : (j : ℕ) → j < n → sizes (multipliers m) (λ r. first_at columns r j) ≤ column_top
  pub some : 0 < column_top

-- the costs of phase 3: -1 in the factor's column, and 0 in the others
abbrev pub AreFactorCosts : (m : ℕ) → List FirstColumn → (factor : ℕ) → Type 0
AreFactorCosts m columns factor = (j : ℕ) → j < length columns →
    first_at columns (suc m) j ≡ cond (eqb j factor) (negsuc 0) (pos 0)

-- what is seen of a row: its numbers, its denominator, and whether its cells are known to fit
pub record RowSeen : Type 0 where
  pub numbers : List ℤ
  pub under : ℤ
  pub fits : Bool

-- what stands for a row if there is none
abbrev pub no_row : RowSeen
no_row = record { numbers = []; under = pos 1; fits = false }

-- the number and the cell of a row
abbrev pub number_with : (m : ℕ) → List FirstColumn → (row : List ℤ) → ℕ → ℤ
number_with m columns row j = number m (length columns) (first_at columns) (number_at row)
    (number_at row (multipliers m)) j

abbrev pub cell_with : (m : ℕ) → List FirstColumn → (row : List ℤ) → ℤ → ℕ → Fraction
cell_with m columns row d j = over (number_with m columns row j) d

-- the number in row i and column j, of rows of multipliers and a right side
abbrev pub revised_number : (m : ℕ) → List FirstColumn → (ℕ → RowSeen) → ℕ → ℕ → ℤ
revised_number m columns s i j = number_with m columns (s i).numbers j

-- and the cell
abbrev pub revised_cell : (m : ℕ) → List FirstColumn → (ℕ → RowSeen) → ℕ → ℕ → Fraction
revised_cell m columns s i j = cell_with m columns (s i).numbers (s i).under j

-- each of m rows and of the objective row has its multipliers and a right side
abbrev pub HaveWidths : (m : ℕ) → (ℕ → RowSeen) → Type 0
HaveWidths m s = (i : ℕ) → i ≤ m → length (s i).numbers ≡ suc (multipliers m)

-- row i is put, and the others stay
pub record IsPut (s : ℕ → RowSeen) (i : ℕ) (numbers : List ℤ) (under : ℤ) (fits : Bool)
    (t : ℕ → RowSeen) : Type 0 where
  pub own_numbers : (t i).numbers ≡ numbers
  pub own_under : (t i).under ≡ under
  pub own_fits : (t i).fits ≡ fits
  pub other : (k : ℕ) → (k ≡ i → ⊥) → t k ≡ s k

-- the numbers of a column, row by row
abbrev pub AreEntered : (m : ℕ) → List FirstColumn → (ℕ → RowSeen) → (column : ℕ) → List ℤ → Type 0
AreEntered m columns s column entered = (i : ℕ) → i ≤ m → number_at entered i ≡ revised_number m columns s i column

-- the numbers with which phase 3 begins: those of the factor's row, whose cell in the factor's column is 1, and once
-- the costs of phase 3; without such a row these costs alone, over 1
abbrev pub IsFactorRow : (m : ℕ) → List FirstColumn → (ℕ → RowSeen) → (column : ℕ) → Option ℕ → (row : List ℤ) →
    ℤ → Type 0
IsFactorRow m columns s column None row d =
    ((j : ℕ) → number_at row j ≡ cond (eqb j (suc m)) (pos 1) (pos 0)) × (d ≡ pos 1)
IsFactorRow m columns s column (Some r) row d =
    ((j : ℕ) → number_at row j ≡ cond (eqb j (suc m)) (number_at (s r).numbers j +ℤ (s r).under)
    (number_at (s r).numbers j)) × (d ≡ (s r).under) × (revised_number m columns s r column ≡ (s r).under)
