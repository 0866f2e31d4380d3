use Rattle.std.proofs.Common.{◌≡◌, ℕ, ◌/◌, ◌<◌}
use Rattle.stack_inverse.specs.Marks.{mark_at, HaveWords}
use Rattle.stack_inverse.proofs.marks.fill_lists.Given as goal

abbrev pub invariant-loop-r : goal.invariant-loop-r
invariant-loop-r l = record {
  wide : (w : ℕ) → HaveWords l.fn.lists w → HaveWords l.lists w;
  each : (w r i : ℕ) → HaveWords l.fn.lists w → r < l.r → i / 64 < w → mark_at l.lists r i ≡ 1;
}
