use Rattle.std.proofs.Common.{◌≡◌, ℕ, ◌<◌, length, get_or, false}
use Rattle.stack_inverse.specs.FirstTable.{flips}
use Rattle.stack_revised.proofs.running.flips.Given as goal

abbrev pub invariant-loop-i : goal.invariant-loop-i
invariant-loop-i l = record {
  long : length l.flipped.items ≡ l.i;
  each : (k : ℕ) → k < l.i → get_or l.flipped.items k false ≡ flips l.right k;
}
