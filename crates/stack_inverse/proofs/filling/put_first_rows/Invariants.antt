use Rattle.std.proofs.Common.{◌≡◌, ℕ, ◌<◌, length, false}
use Rattle.stack_inverse.specs.Columns.{HaveWidths}
use Rattle.stack_inverse.specs.RowsSeen.{seen_at}
use Rattle.stack_inverse.specs.FirstTable.{load_at, IsFirstRow, less_loads}
use Rattle.stack_inverse.proofs.filling.put_first_rows.Given as goal

abbrev pub invariant-loop-i : goal.invariant-loop-i
invariant-loop-i l = record {
  widths : HaveWidths (length l.right) (seen_at l.rows);
  unfit : (k : ℕ) → (seen_at l.rows k).fits ≡ false;
  rest : l.rest ≡ less_loads l.right l.i;
  rows : (k : ℕ) → k < l.i → IsFirstRow (length l.right) (seen_at l.rows) k (load_at l.right k);
}
