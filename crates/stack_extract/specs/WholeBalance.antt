-- What whole amounts of a problem's columns and whole multipliers of its rows may do.
use Rattle.std.specs.Prelude.{◌≡◌, ℕ, ◌<◌, ℤ, pos, ◌*ℤ◌}
use Rattle.stack_algebra.specs.IntegerOrder.{◌≼◌, ◌≺◌}
use Rattle.stack_algebra.specs.Sums.{sum_to}
use Rattle.stack_table.specs.Table.{plain}
use Rattle.stack_table.specs.Problem.{Problem}

module _ (P : Problem) where
  -- amounts of the plain columns, none negative, with which each row makes the scale times its right side
  pub record AreAmounts (x : ℕ → ℤ) (scale : ℤ) : Type 0 where
    pub parts : (j : ℕ) → j < plain P.shape → pos 0 ≼ x j
    pub sums : (i : ℕ) → i < P.shape.rows →
        sum_to (plain P.shape) (λ j. P.entry i j *ℤ x j) ≡ scale *ℤ P.load i

  -- the sum of a column's cells, each times its row's multiplier
  abbrev pub whole_column_work : (ℕ → ℤ) → ℕ → ℤ
  whole_column_work y j = sum_to P.shape.rows (λ k. y k *ℤ P.entry k j)

  -- the sum of all right sides, each times its row's multiplier
  abbrev pub whole_load_work : (ℕ → ℤ) → ℤ
  whole_load_work y = sum_to P.shape.rows (λ k. y k *ℤ P.load k)

  -- the product is negative in no contact column
  abbrev pub AreUnresisted : (ℕ → ℤ) → Type 0
  AreUnresisted y = (j : ℕ) → j < P.shape.contacts → pos 0 ≼ whole_column_work y j

  -- multipliers whose product is negative in no contact column and negative on the right: no amounts balance
  pub record AreRefuting (y : ℕ → ℤ) : Type 0 where
    pub unresisted : AreUnresisted y
    pub driven : whole_load_work y ≺ pos 0

  -- multipliers that bound the factor by its amount
  pub record AreBounding (x : ℕ → ℤ) (scale : ℤ) (y : ℕ → ℤ) : Type 0 where
    pub unresisted : AreUnresisted y
    pub live_work : pos 0 ≺ whole_column_work y P.shape.contacts
    pub meeting : whole_column_work y P.shape.contacts *ℤ x P.shape.contacts ≡ scale *ℤ whole_load_work y

  -- some amounts balance with the factor 0
  pub record StandsInWhole : Type 0 where
    pub scale : ℤ
    pub amounts : ℕ → ℤ
    pub positive : pos 0 ≺ scale
    pub balances : AreAmounts amounts scale
    pub no_factor : amounts P.shape.contacts ≡ pos 0
