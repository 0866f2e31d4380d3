-- Cells in one flat block with a mark for each, by the fractions that they hold. Outside it cells are 0 and
-- marks are on.
use Rattle.std.specs.Prelude.{◌≡◌, ℕ, ◌+◌, ◌*◌, ◌<◌, Bool, true, cond, ltb, List, map, length, get_or, ℤ, pos}
use Rattle.stack_algebra.specs.Fraction.{Fraction}
use Rattle.stack_algebra.proofs.Fractions.{of}
use Rattle.stack_rational.specs.Order.{is_zero}
use Rattle.stack_rational.specs.TooWide.{fraction_fits}
use Rattle.stack_table.specs.Table.{Shape, Tabled, width}

-- the value of item k
abbrev pub item_value : {V : Type 0} → (V → Fraction) → List V → ℕ → Fraction
item_value exact xs k = get_or (map exact xs) k (of (pos 0))

-- the mark of item k
abbrev pub mark_at : List Bool → ℕ → Bool
mark_at marks k = get_or marks k true

-- the cell in row i and column j, of rows of one width one after the other
abbrev pub cell_of : {V : Type 0} → (V → Fraction) → ℕ → List V → ℕ → ℕ → Fraction
cell_of exact width cells i j = cond (ltb j width) (item_value exact cells (i * width + j)) (of (pos 0))

-- cells that fit the greatest value m, each marked exactly if it is 0
pub record IsBlock {V : Type 0} (m : ℤ) (exact : V → Fraction) (cells : List V) (marks : List Bool)
    : Type 0 where
  pub same : length marks ≡ length cells
  pub marked : (k : ℕ) → mark_at marks k ≡ is_zero (item_value exact cells k)
  pub fitting : (k : ℕ) → fraction_fits m (item_value exact cells k) ≡ true

-- n cells more, with the values of f
pub record Grows {V : Type 0} (exact : V → Fraction) (before after : List V) (n : ℕ) (f : ℕ → Fraction)
    : Type 0 where
  pub longer : length after ≡ length before + n
  pub kept : (k : ℕ) → k < length before → item_value exact after k ≡ item_value exact before k
  pub put : (k : ℕ) → k < n → item_value exact after (length before + k) ≡ f k

-- the shape by its numbers
abbrev pub shape_of : ℕ → ℕ → Bool → Shape
shape_of rows contacts has_factor = record { rows = rows; contacts = contacts; factors = cond has_factor 1 0 }

-- the table of cells in one block and of basic columns
abbrev pub tabled : {V : Type 0} → (V → Fraction) → Shape → List V → List ℕ → Tabled Fraction
tabled exact S cells basic = record { cell = cell_of exact (width S) cells; basic = λ i. get_or basic i 0 }
