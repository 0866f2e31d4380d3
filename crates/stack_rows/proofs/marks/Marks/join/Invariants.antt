use Rattle.std.proofs.Common.{◌≡◌, ℕ, ◌<◌, ◌≤◌, get_or}
use Rattle.std.specs.Prelude.{bit_or}
use Rattle.stack_rows.proofs.marks.Marks.join.Given as goal

abbrev pub invariant-loop-w : goal.invariant-loop-w
invariant-loop-w l = record {
  done : (k : ℕ) → k < l.w → get_or l.own k 0 ≡ bit_or (get_or l.initial.own k 0) (get_or l.others k 0);
  left : (k : ℕ) → l.w ≤ k → get_or l.own k 0 ≡ get_or l.initial.own k 0;
}
