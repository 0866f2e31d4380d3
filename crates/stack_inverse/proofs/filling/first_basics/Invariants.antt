use Rattle.std.proofs.Common.{◌≡◌, ℕ, ◌+◌, ◌<◌, length, get_or}
use Rattle.stack_inverse.proofs.filling.first_basics.Given as goal

abbrev pub invariant-loop-i : goal.invariant-loop-i
invariant-loop-i l = record {
  long : length l.basic.items ≡ l.i;
  each : (k : ℕ) → k < l.i → get_or l.basic.items k 0 ≡ l.plain + k;
}
