use Rattle.std.proofs.Common.{ℕ, ◌<◌, ◌≤◌, unsigned_abs}
use Rattle.stack_rows.specs.RowForm.{number_at}
use Rattle.stack_rows.specs.RowSeen.{numbers_of}
use Rattle.stack_inverse.specs.Columns.{number_with}
use Rattle.stack_inverse.proofs.making.top_in.Given as goal

abbrev pub invariant-loop-j : goal.invariant-loop-j
invariant-loop-j l = record {
  cells : (k : ℕ) → unsigned_abs (number_at (numbers_of l.row) k) ≤ l.top;
  made : (i : ℕ) → i < l.j → unsigned_abs (number_with l.first.rows l.first.columns.items (numbers_of l.row) i) ≤ l.top;
}
