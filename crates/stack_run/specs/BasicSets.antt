-- The basic columns of a table's rows, as a set and as a list.
use Rattle.std.specs.Prelude.{◌≡◌, ℕ, ◌<◌}

-- column j is basic in one of the first m rows
pub record IsBasic (m : ℕ) (basic : ℕ → ℕ) (j : ℕ) : Type 0 where
  pub row : ℕ
  pub below : row < m
  pub there : basic row ≡ j

-- the same columns are basic
abbrev pub SameSet : ℕ → (ℕ → ℕ) → (ℕ → ℕ) → Type 0
SameSet m b c = (j : ℕ) → (IsBasic m b j → IsBasic m c j) × (IsBasic m c j → IsBasic m b j)

-- the same columns are basic, in the same rows
abbrev pub SameList : ℕ → (ℕ → ℕ) → (ℕ → ℕ) → Type 0
SameList m b c = (i : ℕ) → i < m → b i ≡ c i
