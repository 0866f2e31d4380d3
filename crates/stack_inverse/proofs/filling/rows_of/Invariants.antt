use Rattle.std.proofs.Common.{◌≡◌, ℕ, ◌<◌, length, false}
use Rattle.stack_inverse.specs.RowsSeen.{seen_at}
use Rattle.stack_inverse.proofs.filling.rows_of.Given as goal

abbrev pub invariant-loop : goal.invariant-loop
invariant-loop l = record {
  height : length l.rows.items ≡ l.counter;
  widths : (k : ℕ) → k < l.counter → length (seen_at l.rows.items k).numbers ≡ l.width;
  unfit : (k : ℕ) → k < l.counter → (seen_at l.rows.items k).fits ≡ false;
}
