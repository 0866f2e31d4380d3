-- Bland's choices over an ordered field: the entering column, the leaving row, and the first row whose ratio
-- is too wide. The run and its laws stand on these words.
use Rattle.std.specs.Prelude.{ℕ, zero, suc, Bool, true, false, cond, ltb, Option, Some, None}
use Rattle.stack_algebra.specs.Ordered.{Ordered, Sign, minus, nought, plus}
use Rattle.stack_algebra.specs.Rows.{less, quotient}
use Rattle.stack_algebra.specs.Search.{first, least, only_if}
use Rattle.stack_rational.specs.declared.exact.Op.{Op}
use Rattle.stack_rational.specs.declared.exact.Op.TheVariants.{Quotient}
use Rattle.stack_table.specs.Table.{Shape, Tabled, right, objective}

-- a number with this sign is negative
abbrev pub is_negative_sign : Sign → Bool
is_negative_sign minus = true
is_negative_sign nought = false
is_negative_sign plus = false

-- a number with this sign is 0
abbrev pub is_nought : Sign → Bool
is_nought minus = false
is_nought nought = true
is_nought plus = false

-- a number with this sign is positive
abbrev pub is_plus : Sign → Bool
is_plus minus = false
is_plus nought = false
is_plus plus = true

-- whether a row goes before another: by the sign of its ratio minus the other's, then by their basic columns
abbrev pub goes_first : Sign → ℕ → ℕ → Bool
goes_first minus b c = true
goes_first nought b c = ltb b c
goes_first plus b c = false

module _ (F : Ordered) where
  -- the better of row n and the best row before it
  abbrev pub better : (ratio : ℕ → F.C) (basic : ℕ → ℕ) → ℕ → Option ℕ → Option ℕ
  better ratio basic n None = Some n
  better ratio basic n (Some r) = Some
      (cond (goes_first (F.sign (less F (ratio n) (ratio r))) (basic n) (basic r)) n r)

  -- among the rows below n with a positive cell, the one with the least ratio; among equal ratios, with the
  -- least basic column
  abbrev pub best : (cell ratio : ℕ → F.C) (basic : ℕ → ℕ) → ℕ → Option ℕ
  best cell ratio basic zero = None
  best cell ratio basic (suc n) = cond (is_plus (F.sign (cell n)))
      (better ratio basic n (best cell ratio basic n)) (best cell ratio basic n)

module _ (F : Ordered) (S : Shape) where
  -- the least column below `among` with a negative objective cell
  abbrev pub entering : Tabled F.C → ℕ → Option ℕ
  entering T among = least among (λ j. is_negative_sign (F.sign (objective F S T j)))

  -- the right side of row i by its cell in column c
  abbrev pub ratio : Tabled F.C → ℕ → ℕ → F.C
  ratio T c i = quotient F (right F S T i) (T.cell i c)

  -- the row that leaves for column c: the best among all but the objective row
  abbrev pub leaving : Tabled F.C → ℕ → Option ℕ
  leaving T c = best F (λ i. T.cell i c) (ratio T c) T.basic S.rows

  -- row i, where it has a positive cell in column c and its ratio is too wide
  abbrev pub ratio_item : (Op → F.C → F.C → Bool) → Tabled F.C → ℕ → ℕ → Option ℕ
  ratio_item is_too_wide T c i = cond (is_plus (F.sign (T.cell i c)))
      (only_if (is_too_wide Quotient (right F S T i) (T.cell i c)) i) None

  -- the first row with a positive cell in column c whose ratio is too wide
  abbrev pub ratio_row : (Op → F.C → F.C → Bool) → Tabled F.C → ℕ → Option ℕ
  ratio_row is_too_wide T c = first S.rows (ratio_item is_too_wide T c)
