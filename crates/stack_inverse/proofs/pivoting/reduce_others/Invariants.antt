use Rattle.std.proofs.Common.{◌≡◌, ◌≢◌, ℕ, ◌<◌, ◌≤◌, ◌-◌, length, true}
use Rattle.stack_rational.proofs.Common.{widest}
use Rattle.stack_inverse.specs.RowBlock.{AreFitting}
use Rattle.stack_inverse.specs.Columns.{HaveWidths}
use Rattle.stack_inverse.specs.RowsSeen.{seen_at, cells_of_rows, IsReducedBy}
use Rattle.stack_inverse.proofs.pivoting.reduce_others.Given as goal

-- the rows before row i are reduced and fit, but for the pivot row; the others are as they were
abbrev pub invariant-loop-i : goal.invariant-loop-i
invariant-loop-i l = record {
  within : l.i ≤ length l.rows;
  widths : HaveWidths l.first.rows (seen_at l.rows);
  left : (k : ℕ) → l.i ≤ k → seen_at l.rows k ≡ seen_at l.fn.rows k;
  fitting : AreFitting widest (cells_of_rows l.first l.rows) (seen_at l.rows);
  fit : (k : ℕ) → k < l.i → k ≢ l.row → (seen_at l.rows k).fits ≡ true;
  done : (k : ℕ) → k < l.i → k ≢ l.row → IsReducedBy widest l.first (seen_at l.fn.rows k) l.pivot k l.column
      (seen_at l.rows k);
}

abbrev pub decreases-loop-i : goal.decreases-loop-i
decreases-loop-i l = length l.rows - l.i
