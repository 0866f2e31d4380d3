-- What amounts of a problem's columns and multipliers of its rows may do, in the problem's own rows: nothing is
-- flipped. The plain columns are the contact columns and, with the number `contacts`, the factor's.
use Rattle.std.specs.Prelude.{◌≡◌, ◌≢◌, ℕ, ◌<◌}
use lib.IntN.{pos}
use Rattle.stack_algebra.specs.Ordered.{Ordered, minus, plus}
use Rattle.stack_algebra.specs.Sums.{sum}
use Rattle.stack_table.specs.Table.{plain}
use Rattle.stack_table.specs.Problem.{Problem}

module _ (F : Ordered) (P : Problem) where
  -- amounts of the plain columns, none negative, with which each row makes the scale times its right side
  pub record Balances (x : ℕ → F.C) (scale : F.C) : Type 0 where
    pub parts : (j : ℕ) → j < plain P.shape → F.sign (x j) ≢ minus
    pub sums : (i : ℕ) → i < P.shape.rows →
        sum F.ring (plain P.shape) (λ j. F.mul (F.of (P.entry i j)) (x j)) ≡ F.mul scale (F.of (P.load i))

  -- the sum of a column's cells, each times its row's multiplier
  abbrev pub column_work : (ℕ → F.C) → ℕ → F.C
  column_work y j = sum F.ring P.shape.rows (λ k. F.mul (y k) (F.of (P.entry k j)))

  -- the sum of all right sides, each times its row's multiplier
  abbrev pub load_work : (ℕ → F.C) → F.C
  load_work y = sum F.ring P.shape.rows (λ k. F.mul (y k) (F.of (P.load k)))

  -- multipliers with a product of at least 0 in each contact column and of less than 0 on the right: no amounts
  -- balance
  pub record Refutes (y : ℕ → F.C) : Type 0 where
    pub unresisted : (j : ℕ) → j < P.shape.contacts → F.sign (column_work y j) ≢ minus
    pub driven : F.sign (load_work y) ≡ minus

  -- multipliers that bound the factor by its amount in x
  pub record Bounds (x y : ℕ → F.C) : Type 0 where
    pub unresisted : (j : ℕ) → j < P.shape.contacts → F.sign (column_work y j) ≢ minus
    pub live_work : F.sign (column_work y P.shape.contacts) ≡ plus
    pub meeting : F.mul (column_work y P.shape.contacts) (x P.shape.contacts) ≡ load_work y

  -- a direction of amounts that changes no row and raises the factor
  pub record Rises (x : ℕ → F.C) : Type 0 where
    pub balances : Balances x (F.of (pos 0))
    pub factor : F.sign (x P.shape.contacts) ≡ plus

  -- some amounts balance with the factor 0
  pub record StandsAlone : Type 0 where
    pub amounts : ℕ → F.C
    pub balances : Balances amounts (F.of (pos 1))
    pub no_factor : amounts P.shape.contacts ≡ F.of (pos 0)
