-- What each table of phase 1 and of phase 3 is, apart from any run, where A are the first rows.
use Rattle.std.specs.Prelude.{◌≡◌, ◌⊎◌, ℕ, ◌+◌, ◌<◌, ◌≤◌}
use lib.IntN.{pos, negsuc}
use Rattle.stack_algebra.specs.Ordered.{Ordered}
use Rattle.stack_algebra.specs.Sums.{sum, at}
use Rattle.stack_algebra.specs.Rows.{spread, less, Tableau}
use Rattle.stack_table.specs.Table.{Shape, Tabled, plain, columns, right, objective}

module _ (F : Ordered) where
  -- the objective's own cells in phase 1, of m rows from the artificial column w on: 1 in each artificial
  -- column
  abbrev pub own_first : (m w : ℕ) → ℕ → F.C
  own_first m w j = spread F.ring m (λ k. w + k) (λ k. F.of (pos 1)) j

  -- the objective's own cells in phase 3: -1 in the factor's column g
  abbrev pub own_third : ℕ → ℕ → F.C
  own_third g j = at F.ring g (F.of (negsuc 0)) j

module _ (F : Ordered) (S : Shape) (A : ℕ → ℕ → F.C) where
  -- a table of phase 1: a tableau, in which the factor isn't basic
  pub record IsFirst (T : Tabled F.C) : Type 0 where
    pub tableau : Tableau F S.rows (columns S) A (own_first F S.rows (plain S)) T.cell T.basic
    pub no_factor : (i : ℕ) → i < S.rows → (T.basic i < S.contacts) ⊎ (plain S ≤ T.basic i)

  -- a table of phase 3: a tableau, in which a row with an artificial basic column is 0 in each plain column and
  -- on the right
  pub record IsThird (T : Tabled F.C) : Type 0 where
    pub tableau : Tableau F S.rows (columns S) A (own_third F S.contacts) T.cell T.basic
    pub zero_value : (i : ℕ) → i < S.rows → plain S ≤ T.basic i → right F S T i ≡ F.of (pos 0)
    pub zero_row : (i j : ℕ) → i < S.rows → plain S ≤ T.basic i → j < plain S → T.cell i j ≡ F.of (pos 0)

  -- each row is a combination of the first rows, and its artificial cells are the multipliers; so is the
  -- objective row, with its own cells added
  pub record ShowsMultipliers (own : ℕ → F.C) (T : Tabled F.C) : Type 0 where
    pub rows : (i j : ℕ) → i < S.rows →
        T.cell i j ≡ sum F.ring S.rows (λ k. F.mul (T.cell i (plain S + k)) (A k j))
    pub objective_row : (j : ℕ) → objective F S T j ≡ F.add (own j)
        (sum F.ring S.rows (λ k. F.mul (less F (objective F S T (plain S + k)) (own (plain S + k))) (A k j)))
