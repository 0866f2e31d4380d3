-- The leaving row by its meaning: of the rows with a positive cell in the entering column it has the least ratio, and
-- among those of the same ratio the least-numbered basic column. After Bland (1977).
use Rattle.std.specs.Prelude.{◌≡◌, ◌≢◌, ℕ, ◌<◌, ◌≤◌, Some, None}
use Rattle.stack_algebra.specs.Fraction.{Fraction}
use Rattle.stack_algebra.specs.Ordered.{Ordered, plus}
use Rattle.stack_algebra.specs.Rows.{less, NonNeg}
use Rattle.stack_algebra.proofs.OrderedFractions.{ordered_fractions}
use Rattle.stack_table.specs.Table.{Shape, Tabled}
use Rattle.stack_bland.specs.Choice.{ratio, leaving}

module _ (F : Ordered) where
  -- row r is no worse than row i: no greater ratio, and at the same ratio no greater basic column
  pub record NoWorse (ratios : ℕ → F.C) (basic : ℕ → ℕ) (r i : ℕ) : Type 0 where
    pub no_greater : NonNeg F (less F (ratios i) (ratios r))
    pub tied : ratios i ≡ ratios r → basic r ≤ basic i

  -- row r is the best of the rows below n with a positive cell
  pub record IsBest (cell ratios : ℕ → F.C) (basic : ℕ → ℕ) (n r : ℕ) : Type 0 where
    pub below : r < n
    pub positive : F.sign (cell r) ≡ plus
    pub no_worse : (i : ℕ) → i < n → F.sign (cell i) ≡ plus → NoWorse ratios basic r i

-- a row that leaves for column c is the best one there
abbrev pub LeavingRowIsBest : Type 0
LeavingRowIsBest = (S : Shape) (T : Tabled Fraction) (c r : ℕ) → leaving ordered_fractions S T c ≡ Some r →
    IsBest ordered_fractions (λ i. T.cell i c) (ratio ordered_fractions S T c) T.basic S.rows r

-- where no row leaves, none has a positive cell there
abbrev pub NoneIsPositive : Type 0
NoneIsPositive = (S : Shape) (T : Tabled Fraction) (c : ℕ) → leaving ordered_fractions S T c ≡ None →
    (i : ℕ) → i < S.rows → ordered_fractions.sign (T.cell i c) ≢ plus
