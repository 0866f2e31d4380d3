-- A row step in which all is small, by a top of all numbers of the row and one of the pivot row's.
use Rattle.std.proofs.Common.{ℕ, ◌-◌, ◌*◌, ◌^◌, ◌≤◌, List, length, arith, ℤ, nat_abs}
use Rattle.stack_rational.proofs.Common.{unsigned_abs-mul, widest}
use Rattle.stack_rows.specs.RowForm.{number_at, AreSmall, AreSmallBelow}
use Rattle.stack_rows.proofs.Casts.{lesser_small}
use Rattle.stack_inverse.specs.declared.columns.FirstColumn.{FirstColumn}
use Rattle.stack_inverse.specs.RowBlock.{AreWithin, IsWholeTop, FitsByTop}
use Rattle.stack_inverse.specs.Columns.{multipliers, AreFirst}
use Rattle.stack_inverse.proofs.RevisedRows.{multiplier_within}

module _ (m : ℕ) (columns : List FirstColumn) (row pivot : List ℤ) (d k t : ℤ) (column_top top p : ℕ)
    (first : AreFirst m (length columns) columns column_top) (whole : IsWholeTop m row column_top top)
    (small : AreSmall k t top p) where
  -- its numbers are small
  pub each_small : AreWithin (number_at pivot) p → AreSmallBelow (multipliers m) k t row pivot
  each_small kept = λ j l. lesser_small k t
      (multiplier_within (number_at row j) whole.top column_top top (whole.each j l) first.some whole.product)
      (kept j) small

  -- and all that it makes fits
  pub small_fits : nat_abs d * nat_abs k ≤ 2 ^ 62 - 1 → FitsByTop widest m row d column_top k t p
  small_fits h = record {
    whole_top = top;
    is_whole_top = whole;
    fitting = record {
      fits = omega (arith, small.sum);
      small = omega (arith, unsigned_abs-mul d k, h);
    };
  }
