use Rattle.std.proofs.Common.{◌≡◌, ℕ, ◌*◌, ◌<◌, ◌≤◌}
use Rattle.stack_rows.specs.Marks.{mark_in}
use Rattle.stack_rows.proofs.marks.Marks.next.Given as goal

abbrev pub invariant-loop-w : goal.invariant-loop-w
invariant-loop-w l = (j : ℕ) → l.from ≤ j → j < l.w * 64 → mark_in l.self.words.items j ≡ 0
