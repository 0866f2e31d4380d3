-- The rows of a table as index functions over a ring or an ordered field: the pivot cell by cell,
-- combinations of the first rows, vectors that the rows annul, values spread over basic columns. The right
-- side is a column like the others.
use mathlib.Core.Path.{◌≡◌}
use mathlib.Core.Logic.{◌≢◌}
use mathlib.Core.Bool.{cond}
use Prim.Native.Nat.{ℕ, suc, ◌<◌}
use lib.Dec.{eqb}
use lib.IntN.{pos}
use Rattle.stack_algebra.specs.Ring.{Ring}
use Rattle.stack_algebra.specs.Ordered.{Ordered, minus, plus}
use Rattle.stack_algebra.specs.Sums.{sum, at}

-- a function changed at one index
abbrev pub changed : {X : Type 0} → (ℕ → X) → ℕ → X → ℕ → X
changed f r x i = cond (eqb i r) x (f i)

module _ (R : Ring) where
  -- row r times q, and each other row less its cell in column c times that
  abbrev pub pivoted : (ℕ → ℕ → R.C) → R.C → ℕ → ℕ → ℕ → ℕ → R.C
  pivoted T q r c i j = cond (eqb i r) (R.mul q (T r j))
      (R.add (T i j) (R.neg (R.mul (T i c) (R.mul q (T r j)))))

  -- the sum of the products of the first n items
  abbrev pub dot : ℕ → (ℕ → R.C) → (ℕ → R.C) → R.C
  dot n f x = sum R n (λ j. R.mul (f j) (x j))

  -- no own cells: 0 in every column
  abbrev pub none : ℕ → R.C
  none j = R.of (pos 0)

  -- each of the first m rows annuls x
  abbrev pub Annuls : ℕ → ℕ → (ℕ → ℕ → R.C) → (ℕ → R.C) → Type 0
  Annuls m n T x = (i : ℕ) → i < m → dot n (T i) x ≡ R.of (pos 0)

  -- a row: own cells, and a combination of the first m rows A
  pub record Combination (m : ℕ) (A : ℕ → ℕ → R.C) (own t : ℕ → R.C) : Type 0 where
    pub multiplier : ℕ → R.C
    pub cell : (j : ℕ) → t j ≡ R.add (own j) (sum R m (λ k. R.mul (multiplier k) (A k j)))

  -- a number for each row, at the row's basic column; 0 in the other columns
  abbrev pub spread : ℕ → (ℕ → ℕ) → (ℕ → R.C) → ℕ → R.C
  spread m basic v j = sum R m (λ i. at R (basic i) (v i) j)

module _ (F : Ordered) where
  -- a number that isn't negative
  pub record NonNeg (x : F.C) : Type 0 where
    pub fact : F.sign x ≢ minus

  -- the cells after a pivot at (r, c)
  abbrev pub next : (ℕ → ℕ → F.C) → ℕ → ℕ → ℕ → ℕ → F.C
  next cell r c = pivoted F.ring cell (F.inv (cell r c)) r c

  -- what every pivot keeps of a table with m rows, n columns and then the right side, where the first rows
  -- were A:
  -- rows are combinations of the first rows, basic columns are unit columns, right sides aren't negative
  pub record Tableau (m n : ℕ) (A : ℕ → ℕ → F.C) (own : ℕ → F.C) (cell : ℕ → ℕ → F.C) (basic : ℕ → ℕ)
      : Type 0 where
    pub row : (i : ℕ) → i < m → Combination F.ring m A (none F.ring) (cell i)
    pub objective : Combination F.ring m A own (cell m)
    pub back : (x : ℕ → F.C) → Annuls F.ring m (suc n) cell x → Annuls F.ring m (suc n) A x
    pub basic_below : (i : ℕ) → i < m → basic i < n
    pub unit : (i s : ℕ) → i < m → s < m → cell i (basic s) ≡ at F.ring s (F.of (pos 1)) i
    pub objective_unit : (s : ℕ) → s < m → cell m (basic s) ≡ F.of (pos 0)
    pub feasible : (i : ℕ) → i < m → NonNeg (cell i n)

  -- x less y
  abbrev pub less : F.C → F.C → F.C
  less x y = F.add x (F.neg y)

  -- x over y, which means nothing where y is 0
  abbrev pub quotient : F.C → F.C → F.C
  quotient x y = F.mul (F.inv y) x

  -- among the rows below m with a positive cell in column c, row r has the least ratio of right side to cell
  pub record HasLeastRatio (m n : ℕ) (cell : ℕ → ℕ → F.C) (r c : ℕ) : Type 0 where
    pub below : r < m
    pub positive : F.sign (cell r c) ≡ plus
    pub least : (i : ℕ) → i < m → F.sign (cell i c) ≡ plus →
        NonNeg (less (quotient (cell i n) (cell i c)) (quotient (cell r n) (cell r c)))
