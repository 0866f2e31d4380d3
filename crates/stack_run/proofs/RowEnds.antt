-- What the four ends give over the first rows A: m rows, the columns below w that may enter, the right side in
-- column n.
use Rattle.std.proofs.Common.{◌≡◌, ◌≢◌, ℕ, ◌<◌, pos}
use Rattle.stack_rational.proofs.Common.{Ordered, minus, plus}
use Rattle.stack_algebra.specs.Sums.{sum}

module _ (F : Ordered) (m w n : ℕ) (A : ℕ → ℕ → F.C) where
  -- the columns below w in the amounts x, none negative, make the right side times the scale
  pub record Balances (x : ℕ → F.C) (scale : F.C) : Type 0 where
    pub parts : (j : ℕ) → j < w → F.sign (x j) ≢ minus
    pub sums : (i : ℕ) → i < m → sum F.ring w (λ j. F.mul (A i j) (x j)) ≡ F.mul scale (A i n)

  -- the rows in the amounts y, at column j
  abbrev pub work : (ℕ → F.C) → ℕ → F.C
  work y j = sum F.ring m (λ k. F.mul (y k) (A k j))

  -- multipliers that no column below `contacts` resists, and that the right side drives
  pub record Refutes (contacts : ℕ) (y : ℕ → F.C) : Type 0 where
    pub unresisted : (j : ℕ) → j < contacts → F.sign (work y j) ≢ minus
    pub driven : F.sign (work y n) ≡ minus

  -- multipliers that bound the factor, whose column is g
  pub record Bounds (g : ℕ) (x y : ℕ → F.C) : Type 0 where
    pub unresisted : (j : ℕ) → j < g → F.sign (work y j) ≢ minus
    pub live_work : F.sign (work y g) ≡ plus
    pub meeting : F.mul (work y g) (x g) ≡ work y n

  -- the factor rises without limit
  pub record Rises (g : ℕ) (x : ℕ → F.C) : Type 0 where
    pub balances : Balances x (F.of (pos 0))
    pub factor : F.sign (x g) ≡ plus

  -- amounts that balance with the factor 0: the right side stands by itself
  pub record StandsAlone (g : ℕ) : Type 0 where
    pub amounts : ℕ → F.C
    pub balances : Balances amounts (F.of (pos 1))
    pub no_factor : amounts g ≡ F.of (pos 0)
