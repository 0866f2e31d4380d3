use Rattle.std.proofs.Common.{◌≡◌, ℕ, ◌-◌, ◌≤◌, length, pos}
use Rattle.stack_rows.specs.Marks.{mark_in}
use Rattle.stack_rows.specs.RowForm.{number_at}
use Rattle.stack_rows.proofs.marks.unmark_zero_words.Given as goal

abbrev pub invariant-loop-j : goal.invariant-loop-j
invariant-loop-j l = record {
  here : l.j ≤ length l.row;
  long : length l.marks.words.items ≡ length l.fn.marks.words.items;
  nothing : (i : ℕ) → mark_in l.marks.words.items i ≡ 0 → number_at l.row i ≡ pos 0;
  within : (i : ℕ) → length l.row ≤ i → mark_in l.marks.words.items i ≡ 0;
}

abbrev pub decreases-loop-j : goal.decreases-loop-j
decreases-loop-j l = length l.row - l.j
