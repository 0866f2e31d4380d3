use Rattle.std.proofs.Common.{◌≡◌, ◌≢◌, ℕ, suc, ◌<◌, ◌≤◌, ◌-◌, ◌/◌, length, pos, unsigned_abs}
use Rattle.stack_rational.proofs.Common.{widest}
use Rattle.stack_rows.specs.RowForm.{number_at}
use Rattle.stack_inverse.specs.Columns.{multipliers}
use Rattle.stack_rows.specs.Marks.{mark_in}
use Rattle.stack_inverse.specs.RowsSeen.{seen_at, number_in_row}
use Rattle.stack_inverse.proofs.making.enter_column.Given as goal

-- the numbers so far; from there on there are only zeros, and the marks are as they were, but that the objective row
-- has one
abbrev pub invariant-loop-i : goal.invariant-loop-i
invariant-loop-i l = record {
  long : length l.marks.words.items ≡ suc (suc l.first.rows / 64);
  within : l.i ≤ length l.rows;
  numbers : (k : ℕ) → k < l.i → number_at l.entered k ≡ number_in_row l.first (seen_at l.rows k) l.column;
  fit : (k : ℕ) → k < l.i → unsigned_abs (number_at l.entered k) ≤ unsigned_abs widest;
  right_fits : (k : ℕ) → k < l.i → number_at l.entered k ≢ pos 0 →
      unsigned_abs (number_at (seen_at l.rows k).numbers (multipliers l.first.rows)) ≤ unsigned_abs widest;
  told : (k : ℕ) → k < l.i → mark_in l.marks.words.items k ≡ 0 → number_at l.entered k ≡ pos 0;
  rest : (k : ℕ) → l.i ≤ k → number_at l.entered k ≡ pos 0;
  ahead : (k : ℕ) → l.i ≤ k → mark_in l.marks.words.items k ≡ 0 →
      (k ≢ l.first.rows) × (mark_in l.fn.marks.words.items k ≡ 0);
}

abbrev pub decreases-loop-i : goal.decreases-loop-i
decreases-loop-i l = length l.rows - l.i
