use Rattle.std.proofs.Common.{◌≡◌, ℕ, ◌<◌, ◌-◌, ◌^◌, length, get_or}
use Rattle.stack_rows.proofs.marks.Marks.fill.Given as goal

abbrev pub invariant-loop-w : goal.invariant-loop-w
invariant-loop-w l = record {
  long : length l.self.words.items ≡ length l.fn.self.words.items;
  done : (k : ℕ) → k < l.w → get_or l.self.words.items k 0 ≡ 2 ^ 64 - 1;
}
