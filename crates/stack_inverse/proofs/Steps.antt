-- A row that is reduced.
use Rattle.std.proofs.Common.{◌≡◌, sym, ap, ◌∙◌, ℕ, suc, ◌+◌, ◌≤◌, List, length, None, true}
use Rattle.std.proofs.Common.{unsigned_abs, arith, ℤ, pos, ◌-ℤ◌, ◌*ℤ◌}
use Rattle.stack_rational.proofs.Common.{ints, Fraction, ◌≺◌, of, over, of-over, ordered_fractions, expand, sums}
use Rattle.stack_rational.proofs.Common.{first_all-none, is_zero_whole, is_zero, IsWidth, is_too_wide, widest}
use Rattle.stack_rational.proofs.Common.{fraction_fits, cancel, mul_pos}
use Rattle.stack_rational.proofs.WideWholes.{num_of}
use Rattle.stack_rational.proofs.Fitting.{is_zero_whole-num, is_zero-of}
use Rattle.stack_table.specs.Spots.{reduced, reduce_item}
use Rattle.stack_table.proofs.RowSteps.{row_skips}
use Rattle.stack_inverse.specs.declared.columns.FirstColumn.{FirstColumn}
use Rattle.stack_rows.specs.RowForm.{number_at, IsTaken}
use Rattle.stack_inverse.specs.RowBlock.{AreWithin, AllNumbersFit, FitsByTop, IsReducedRow, IsReduced, KeepsZeros}
use Rattle.stack_inverse.specs.Columns.{AreFirst, number_with, cell_with}
use Rattle.stack_rows.proofs.OverOneDenominator.{same_over}
use Rattle.stack_inverse.proofs.StepCell.{step_cell}
use Rattle.stack_inverse.proofs.Bounds.{step_none, step_fits}
use Rattle.stack_inverse.proofs.RevisedRows.{by_top, stepped_cell}

-- the greatest number of 128 bits is a greatest value
pub is_width : IsWidth widest
is_width = record { some = omega (arith, ints); at_most = omega (arith, ints) }

-- 0 over any denominator
pub over_zero : (d : ℤ) → pos 0 ≺ d → over (pos 0) d ≡ of (pos 0)
over_zero d h = same_over (pos 0) d (pos 0) (pos 1) h (omega (arith, ints)) (cross d) ∙ of-over (pos 0)
  where
    cross : (d : ℤ) → pos 0 *ℤ pos 1 ≡ pos 0 *ℤ d
    cross d = simp expand (omega (arith, sums))

-- a number that is 0 makes a cell that is 0
pub zero_cell : (n d : ℤ) → pos 0 ≺ d → n ≡ pos 0 → (over n d).num ≡ pos 0
zero_cell n d h e = ap (λ (x : Fraction). x.num) (ap (λ n. over n d) e ∙ over_zero d h) ∙ num_of (pos 0)

-- a product with a positive number is 0 only if the other one is
no_part : (n c : ℤ) → pos 0 ≺ c → n *ℤ c ≡ pos 0 → n ≡ pos 0
no_part n c h e = cancel c n (pos 0) h (turned n c ∙ e ∙ sym (none c))
  where
    turned : (n c : ℤ) → c *ℤ n ≡ n *ℤ c
    turned n c = simp expand (omega (arith, sums))

    none : (c : ℤ) → c *ℤ pos 0 ≡ pos 0
    none c = simp expand (omega (arith, sums))

-- no multiple of nothing, and none of it is taken
nothing_taken : (k t g : ℤ) → (pos 0 *ℤ k -ℤ t *ℤ pos 0) *ℤ g ≡ pos 0
nothing_taken k t g = simp expand (omega (arith, sums))

none_taken : (k p g : ℤ) → (pos 0 *ℤ k -ℤ pos 0 *ℤ p) *ℤ g ≡ pos 0
none_taken k p g = simp expand (omega (arith, sums))

no_times : (k : ℤ) → pos 0 *ℤ k ≡ pos 0
no_times k = simp expand (omega (arith, sums))

-- what a step keeps 0
taken_zeros : (row pivot new : List ℤ) (c e f k t g : ℤ) → pos 0 ≺ c → pos 0 ≺ e → f *ℤ k ≡ t *ℤ e →
    IsTaken row c pivot k t new g → KeepsZeros row pivot f new
taken_zeros row pivot new c e f k t g hc he cross x = record {
  both = λ q a p. no_part (number_at new q) c hc (x.number q ∙ (λ z. (a z *ℤ k -ℤ t *ℤ p z) *ℤ g)
      ∙ nothing_taken k t g);
  bare = λ z q a. no_part (number_at new q) c hc (x.number q
      ∙ (λ i. (a i *ℤ k -ℤ factor z i *ℤ number_at pivot q) *ℤ g) ∙ none_taken k (number_at pivot q) g);
}
  where
    factor : f ≡ pos 0 → t ≡ pos 0
    factor z = no_part t e he (sym cross ∙ ap (λ y. y *ℤ k) z ∙ no_times k)

module _ (m : ℕ) (columns : List FirstColumn) (row : List ℤ) (d : ℤ) (positive : pos 0 ≺ d) where
  -- a row whose number in the column is 0, and whose cells fit, stays
  pub row_stays : (pivot : List ℤ) (e : ℤ) (i column : ℕ) → AllNumbersFit widest (cell_with m columns row d) →
      is_zero_whole (number_with m columns row column) ≡ true →
      IsReduced widest m columns row d pivot e i column row d
  row_stays pivot e i column fit z = record {
    cells = record {
      own = λ j. sym (skips j).0;
      fits = fit;
      none = first_all-none (suc (length columns + m)) _ (λ j l. (skips j).1);
    };
    zeros = record { both = λ q a p. a; bare = λ z q a. a };
  }
    where
      nought : is_zero (cell_with m columns row d column) ≡ true
      nought = ap is_zero (ap (λ n. over n d)
          (is_zero_whole-num (number_with m columns row column) z) ∙ over_zero d positive) ∙ is_zero-of

      skips : (j : ℕ) → (reduced ordered_fractions (cell_with m columns row d) (cell_with m columns pivot e)
          (cell_with m columns row d column) j ≡ cell_with m columns row d j) ×
          (reduce_item ordered_fractions (is_too_wide widest) (cell_with m columns row d)
          (cell_with m columns pivot e) (cell_with m columns row d column) i j ≡ None)
      skips j = row_skips widest (cell_with m columns row d) (cell_with m columns pivot e)
          (cell_with m columns row d column) i j is_width (fit j) nought

  -- a row that is reduced by the pivot row over e
  module _ (new pivot : List ℤ) (after e k t f : ℤ) (column : ℕ) (he : pos 0 ≺ e) (hk : pos 0 ≺ k)
      (hf : f ≡ number_with m columns row column) (hc : f *ℤ k ≡ t *ℤ e)
      (x : IsTaken row (d *ℤ k) pivot k t new after) where
    cross : number_with m columns row column *ℤ k ≡ t *ℤ e
    cross = ap (λ z. z *ℤ k) (sym hf) ∙ hc

    -- is the written row
    pub taken_own : (j : ℕ) → cell_with m columns new after j
        ≡ reduced ordered_fractions (cell_with m columns row d) (cell_with m columns pivot e)
        (cell_with m columns row d column) j
    taken_own j = stepped_cell m columns row pivot new d k t after x positive hk j
        ∙ step_cell (number_with m columns row j) (number_with m columns row column) d
        (number_with m columns pivot j) e k t positive he hk cross

    -- and keeps its zeros
    pub taken_keeps : KeepsZeros row pivot (number_with m columns row column) new
    taken_keeps = taken_zeros row pivot new (d *ℤ k) e (number_with m columns row column) k t after
        (mul_pos d k positive hk) he cross x

    -- and by tops of both rows its cells fit
    pub row_by_tops : (column_top p : ℕ) → AreFirst m (length columns) columns column_top → (i : ℕ) →
        FitsByTop widest m row d column_top k t p → AreWithin (number_with m columns pivot) p →
        IsReduced widest m columns row d pivot e i column new after
    row_by_tops column_top p first i b kp = record { cells = fitting; zeros = taken_keeps }
      where
        within : (j : ℕ) → unsigned_abs (number_with m columns row j) ≤ b.whole_top
        within = by_top m columns column_top first row b.whole_top b.is_whole_top

        fitting : IsReducedRow widest (suc (length columns + m)) (cell_with m columns row d)
            (cell_with m columns pivot e) i column (cell_with m columns new after)
        fitting = record {
          own = taken_own;
          fits = λ j. ap (fraction_fits widest) (stepped_cell m columns row pivot new d k t after x positive hk j)
              ∙ step_fits widest (number_with m columns row) (number_with m columns pivot) d e
              (number_with m columns row column) k t b.whole_top p positive he hk cross within kp b.fitting.fits
              b.fitting.small j;
          none = first_all-none (suc (length columns + m)) _ (λ j l. step_none widest (number_with m columns row)
              (number_with m columns pivot) d e (number_with m columns row column) k t b.whole_top p positive he hk
              cross within kp b.fitting.fits b.fitting.small i j);
        }
