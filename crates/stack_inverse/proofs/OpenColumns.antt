-- The columns in which the objective row may be negative after a pivot.
use Rattle.std.proofs.Common.{◌≡◌, ◌≢◌, sym, ap, ◌∙◌, ℕ, suc, ◌<◌, List, [], ◌∷◌, length, arith, ℤ, pos}
use Rattle.std.proofs.Common.{refl, true, ◌*ℤ◌, ◌+ℤ◌}
use lib.IntN.{ℤ_discrete}
use Rattle.std.specs.List.{AllByRecursion}
use Rattle.stack_rational.proofs.Common.{◌≺◌, next, ordered_fractions, sum_of}
use Rattle.stack_rational.proofs.Common.{zero-*ℤ}
use Rattle.stack_bland.specs.Choice.{is_negative_sign}
use Rattle.stack_inverse.specs.declared.columns.FirstColumn.{FirstColumn}
use Rattle.stack_inverse.specs.declared.columns.Cell.{Cell}
use Rattle.stack_inverse.specs.declared.marking.Marking.{Marking}
use Rattle.stack_rows.specs.RowForm.{number_at}
use Rattle.stack_inverse.specs.Columns.{RowSeen, multipliers, revised_cell, revised_number}
use Rattle.stack_inverse.specs.Columns.{cells_at, rises}
use Rattle.stack_inverse.specs.Marks.{mark_at, AreUses, AreClean}
use Rattle.stack_inverse.specs.Marking.{AreMarkedOn}
use Rattle.stack_inverse.proofs.Entered.{Rises, rises_of}
use Rattle.stack_inverse.proofs.Made.{number_made}
use Rattle.stack_inverse.proofs.PivotedZeros.{zero_over, same_sign, column_stays}

-- a sum of products with 0
nothing_sums : (m from : ℕ) (row : List ℤ) (marked : ℕ → Type 0) (xs : List Cell) → Rises m from xs →
    ((q : ℕ) → q < m → marked q → number_at row q ≡ pos 0) → AllByRecursion (λ x. marked x.row) xs →
    sum_of (λ x. number_at row x.row *ℤ x.value) xs ≡ pos 0
nothing_sums m from row marked [] h none all = refl
nothing_sums m from row marked (x ∷ xs) h none all =
    let rest = nothing_sums m (suc x.row) row marked xs h.2 none all.1 in
    let here : number_at row x.row *ℤ x.value ≡ pos 0 =
    ap (λ z. z *ℤ x.value) (none x.row h.1 all.0) ∙ zero-*ℤ x.value in
    (λ z. here z +ℤ rest z)

module _ (m : ℕ) (columns : List FirstColumn) (s t : ℕ → RowSeen) (r c : ℕ) (l : r < m)
    (ps : (i : ℕ) → pos 0 ≺ (s i).under) (pt : (i : ℕ) → pos 0 ≺ (t i).under)
    (rising : (j : ℕ) → j < length columns → rises (multipliers m) 0 (cells_at columns j) ≡ true)
    (is : (i j : ℕ) → revised_cell m columns t i j
    ≡ next ordered_fractions (revised_cell m columns s) r c i j) where
  -- a row has nothing in a column in whose rows it has nothing
  row_nothing : (j : ℕ) → j < length columns →
      sum_of (λ x. number_at (t r).numbers x.row *ℤ x.value) (cells_at columns j) ≡ pos 0 →
      revised_number m columns t r j ≡ pos 0
  row_nothing j lt e = sym (number_made m columns (t r).numbers j lt (rising j lt) (cells_at columns j) refl) ∙ e

  -- the objective row isn't negative in a column without a mark
  pub columns_kept : (old new : Marking) → AreMarkedOn (t r).numbers old new →
      length old.uses.items ≡ multipliers m → AreUses old.uses.items columns →
      AreClean (revised_number m columns s m) (length columns) old.«open».words.items →
      AreClean (revised_number m columns t m) (length columns) new.«open».words.items
  columns_kept old new k few used was j lt z =
      ap is_negative_sign (same_sign (revised_number m columns t m j) (t m).under
      (revised_number m columns s m j) (s m).under (pt m) (ps m) stays)
      ∙ was j lt (k.marks_kept j z)
    where
      none : (q : ℕ) → q < multipliers m → mark_at old.uses.items q j ≢ 0 → number_at (t r).numbers q ≡ pos 0
      none q lq n = elim (ℤ_discrete (number_at (t r).numbers q) (pos 0)) [
        | yes p ↦ p
        | no d ↦ absurd (n (k.unused q j (omega (arith, lq, few)) d z))
      ]

      stays : revised_cell m columns t m j ≡ revised_cell m columns s m j
      stays = column_stays (revised_cell m columns s) (revised_cell m columns t) r c is m j
          (λ e. omega (arith, l, e))
          (zero_over (revised_number m columns t r j) (t r).under (pt r) (row_nothing j lt
          (nothing_sums (multipliers m) 0 (t r).numbers (λ q. mark_at old.uses.items q j ≢ 0) (cells_at columns j)
          (rises_of (multipliers m) 0 (cells_at columns j) (rising j lt)) none (used j lt))))
