-- A pivot over cells, row by row.
use Rattle.std.proofs.Common.{◌≡◌, ◌≢◌, refl, sym, ap, ◌∙◌, ℕ, ◌<◌, ◌≤◌, Some, None, true, cond, arith, ne_eqb}
use Rattle.std.proofs.lemmas.Bool.Decides.{nat_tests}
use Rattle.stack_rational.proofs.Common.{ℕ_discrete, dec_lt, Fraction, next, ordered_fractions}
use Rattle.stack_rational.proofs.Common.{first, or_else, first_all-none, first_found, is_zero, widest, fraction_fits}
use Rattle.stack_rational.proofs.Common.{is_too_wide}
use Rattle.stack_table.specs.declared.types.PivotWide.{PivotWide}
use Rattle.stack_table.specs.Spots.{divided, reduced, divide_item, reduce_spot, row_spot, cells_spot}
use Rattle.stack_table.proofs.RowSteps.{row_skips, reduced_same}
use Rattle.stack_table.specs.declared.types.TurnRefusal.{TurnRefusal}
use Rattle.stack_table.specs.declared.types.TurnRefusal.TheVariants.{TooWide, Unsettled}
use Rattle.stack_inverse.specs.CellSteps.{TellsSpot, PivotIsRefused}
use Rattle.stack_inverse.specs.RowBlock.{IsReducedRow, IsPivotedCells}
use Rattle.stack_inverse.proofs.Steps.{is_width}

-- in the pivot row no other step is written
spot_skips : (width : ℕ) (old : ℕ → ℕ → Fraction) (r c k : ℕ) → k ≡ r →
    row_spot ordered_fractions (is_too_wide widest) width old r c k ≡ None
spot_skips width old r c k q = grind (arith, nat_tests)

-- and in another row that of its step
spot_is : (width : ℕ) (old : ℕ → ℕ → Fraction) (g : ℕ → Fraction) (r c : ℕ) →
    ((j : ℕ) → g j ≡ divided ordered_fractions (old r) (old r c) j) → (k : ℕ) → k ≢ r →
    row_spot ordered_fractions (is_too_wide widest) width old r c k
    ≡ reduce_spot ordered_fractions (is_too_wide widest) width (old k) g (old k c) k
spot_is width old g r c g_is k q = ap (λ b. cond b None (reduce_spot ordered_fractions (is_too_wide widest) width
    (old k) (divided ordered_fractions (old r) (old r c)) (old k c) k)) (ne_eqb k r q)
    ∙ sym (λ z. reduce_spot ordered_fractions (is_too_wide widest) width (old k) (λ y. g_is y z) (old k c) k)

-- all rows are reduced, and the pivot row is put
module _ (height width : ℕ) (old : ℕ → ℕ → Fraction) (g : ℕ → Fraction) (r c : ℕ)
    (g_is : (j : ℕ) → g j ≡ divided ordered_fractions (old r) (old r c) j)
    (divide_item_none : (row j : ℕ) → divide_item ordered_fractions (is_too_wide widest) (old r) (old r c) row j ≡ None)
    (outside : (k : ℕ) → height ≤ k → (j : ℕ) → is_zero (old k j) ≡ true)
    (outside_fits : (k : ℕ) → height ≤ k → (j : ℕ) → fraction_fits widest (old k j) ≡ true) where
  -- where no step of another row is too wide
  pub pivoted_cells : (new : ℕ → ℕ → Fraction) → ((j : ℕ) → new r j ≡ g j) →
      ((k : ℕ) → k < height → k ≢ r → IsReducedRow widest width (old k) g k c (new k)) →
      ((k : ℕ) → height ≤ k → (j : ℕ) → k ≢ r → new k j ≡ old k j) → IsPivotedCells widest height width old r c new
  pivoted_cells new own each past = record {
    cell = λ k j. cell k j (ℕ_discrete k r);
    none = (λ z. or_else (divide_none z) (rest_none z));
  }
    where
      reduced_at : (k j : ℕ) → k ≢ r → Dec (k < height) → new k j ≡ reduced ordered_fractions (old k) g (old k c) j
      reduced_at k j n (yes l) = (each k l n).own j
      reduced_at k j n (no l) = past k (omega (arith, l)) j n
          ∙ sym (row_skips widest (old k) g (old k c) k j is_width (outside_fits k (omega (arith, l)) j)
          (outside k (omega (arith, l)) c)).0

      cell : (k j : ℕ) → Dec (k ≡ r) → new k j ≡ next ordered_fractions old r c k j
      cell k j (yes q) =
          let here = own j ∙ g_is j in
          grind (arith, nat_tests, here)
      cell k j (no q) =
          let here = reduced_at k j q (dec_lt k height) ∙ reduced_same (old k) (old k) g
          (divided ordered_fractions (old r) (old r c)) (old k c) (old k c) j refl (g_is j) refl in
          grind (arith, nat_tests, here)

      divide_none : first width (divide_item ordered_fractions (is_too_wide widest) (old r) (old r c) r) ≡ None
      divide_none = first_all-none width _ (λ j l. divide_item_none r j)

      spot : (k : ℕ) → Dec (k ≡ r) → k < height → row_spot ordered_fractions (is_too_wide widest) width old r c k ≡ None
      spot k (yes q) l = spot_skips width old r c k q
      spot k (no q) l = spot_is width old g r c g_is k q ∙ (each k l q).none

      rest_none : first height (row_spot ordered_fractions (is_too_wide widest) width old r c) ≡ None
      rest_none = first_all-none height _ (λ k l. spot k (ℕ_discrete k r) l)

  -- row i is refused at a place, and so is the pivot
  refused_at : (i : ℕ) → i < height → i ≢ r → ((k : ℕ) → k < i → k ≢ r →
      reduce_spot ordered_fractions (is_too_wide widest) width (old k) g (old k c) k ≡ None) → (p : PivotWide) →
      reduce_spot ordered_fractions (is_too_wide widest) width (old i) g (old i c) i ≡ Some p →
      cells_spot ordered_fractions (is_too_wide widest) height width old r c ≡ Some p
  refused_at i l n h p e =
      ap (λ o. or_else o (first height (row_spot ordered_fractions (is_too_wide widest) width old r c)))
      (first_all-none width (divide_item ordered_fractions (is_too_wide widest) (old r) (old r c) r)
      (λ j l. divide_item_none r j))
      ∙ first_found height i (row_spot ordered_fractions (is_too_wide widest) width old r c) p l
      (first_all-none i _ (λ k b. before k b (ℕ_discrete k r)))
      (spot_is width old g r c g_is i n ∙ e)
    where
      before : (k : ℕ) → k < i → Dec (k ≡ r) → row_spot ordered_fractions (is_too_wide widest) width old r c k ≡ None
      before k b (yes q) = spot_skips width old r c k q
      before k b (no q) = spot_is width old g r c g_is k q ∙ h k b q

  -- what a refusal of a row says of the row it says of the pivot
  pub tells_refused : (e : TurnRefusal) → PivotIsRefused widest height width old g r c e →
      TellsSpot e (cells_spot ordered_fractions (is_too_wide widest) height width old r c)
  tells_refused (TooWide p) x = refused_at x.0 x.1 x.2.apart x.2.before p x.2.here
  tells_refused Unsettled x = tt
