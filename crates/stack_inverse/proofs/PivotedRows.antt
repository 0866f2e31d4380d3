-- The rows after a pivot.
use Rattle.std.proofs.Common.{◌≡◌, ◌≢◌, sym, ap, subst, ◌∙◌, ℕ, suc, ◌+◌, ◌<◌, ◌≤◌, true, false, List, length, arith, ℤ}
use Rattle.stack_rational.proofs.Common.{ℕ_discrete, dec_lt, Fraction, ordered_fractions, is_zero, widest}
use Rattle.stack_rational.proofs.Common.{fraction_fits, is_too_wide}
use Rattle.stack_table.specs.Spots.{cells_spot}
use Rattle.stack_inverse.specs.declared.columns.FirstColumn.{FirstColumn}
use Rattle.stack_table.specs.declared.types.TurnRefusal.{TurnRefusal}
use Rattle.stack_inverse.specs.CellSteps.{TellsSpot, PivotIsRefused}
use Rattle.stack_inverse.specs.RowBlock.{IsDividedRow, IsReducedRow, IsPivotedCells, AreFitting}
use Rattle.stack_inverse.specs.Columns.{RowSeen, no_row, IsPut, cell_with, revised_cell}
use Rattle.stack_inverse.proofs.Division.{cell_outside_zero, cell_outside_fits, put_own}
use Rattle.stack_inverse.proofs.PivotLoop.{pivoted_cells, tells_refused}

-- the pivot row is divided, and the rows past the last one are none
module _ (m : ℕ) (columns : List FirstColumn) (s : ℕ → RowSeen) (numbers : List ℤ) (under : ℤ) (r c : ℕ)
    (divided : IsDividedRow widest (revised_cell m columns s r) c (cell_with m columns numbers under))
    (past : (k : ℕ) → m < k → s k ≡ no_row) where
  outside : (k : ℕ) → suc m ≤ k → (j : ℕ) → is_zero (revised_cell m columns s k j) ≡ true
  outside k l j = cell_outside_zero m columns s k j (past k (omega (arith, l)))

  outside_fits : (k : ℕ) → suc m ≤ k → (j : ℕ) → fraction_fits widest (revised_cell m columns s k j) ≡ true
  outside_fits k l j = cell_outside_fits m columns s k j (past k (omega (arith, l)))

  -- what is refused of a row is refused of the pivot
  pub refused : (e : TurnRefusal) →
      PivotIsRefused widest (suc m) (suc (length columns + m)) (revised_cell m columns s)
      (cell_with m columns numbers under) r c e →
      TellsSpot e (cells_spot ordered_fractions (is_too_wide widest) (suc m) (suc (length columns + m))
      (revised_cell m columns s) r c)
  refused e x = tells_refused (suc m) (suc (length columns + m)) (revised_cell m columns s)
      (cell_with m columns numbers under) r c divided.cell divided.none outside outside_fits e x

  -- the other rows are reduced, and the pivot row is put
  module _ (u t : ℕ → RowSeen) (l : r < m) (past_too : (k : ℕ) → m < k → u k ≡ no_row)
      (put : IsPut u r numbers under true t)
      (each : (k : ℕ) → k < suc m → (k ≢ r) → IsReducedRow widest (suc (length columns + m))
      (revised_cell m columns s k) (cell_with m columns numbers under) k c
      (revised_cell m columns u k)) where
    stays : (k j : ℕ) → k ≢ r → revised_cell m columns t k j ≡ revised_cell m columns u k j
    stays k j n = λ z. cell_with m columns (put.other k n z).numbers
        (put.other k n z).under j

    past_stays : (k : ℕ) → suc m ≤ k → (j : ℕ) → k ≢ r →
        revised_cell m columns t k j ≡ revised_cell m columns s k j
    past_stays k q j n = stays k j n ∙ (λ z. cell_with m columns
        ((past_too k (omega (arith, q)) ∙ sym (past k (omega (arith, q)))) z).numbers
        ((past_too k (omega (arith, q)) ∙ sym (past k (omega (arith, q)))) z).under j)

    -- and all cells fit
    pub pivoted : IsPivotedCells widest (suc m) (suc (length columns + m)) (revised_cell m columns s) r c
        (revised_cell m columns t) × AreFitting widest (revised_cell m columns t) t
    pivoted = (
      pivoted_cells (suc m) (suc (length columns + m)) (revised_cell m columns s)
          (cell_with m columns numbers under) r c divided.cell divided.none outside outside_fits
          (revised_cell m columns t) (put_own m columns u t r numbers under true put)
          (λ k q n. subst (λ (f : ℕ → Fraction). IsReducedRow widest (suc (length columns + m))
          (revised_cell m columns s k) (cell_with m columns numbers under) k c f)
          (λ z j. sym (stays k j n) z) (each k q n)) past_stays,
      λ k e j. go k e j (ℕ_discrete k r) (dec_lt k (suc m)),
    )
      where
        go : (k : ℕ) → (t k).fits ≡ true → (j : ℕ) → Dec (k ≡ r) → Dec (k < suc m) →
            fraction_fits widest (revised_cell m columns t k j) ≡ true
        go k e j (yes q) d = ap (λ n. fraction_fits widest (revised_cell m columns t n j)) q
            ∙ ap (fraction_fits widest) (put_own m columns u t r numbers under true put j) ∙ divided.fits j
        go k e j (no n) (yes q) = ap (fraction_fits widest) (stays k j n) ∙ (each k q n).fits j
        go k e j (no n) (no q) = let b : false ≡ true = sym (ap (λ (x : RowSeen). x.fits) (put.other k n
            ∙ past_too k (omega (arith, q)))) ∙ e in absurd cc
