use Rattle.std.proofs.Common.{◌≡◌, ◌≢◌, ℕ, suc, ◌+◌, ◌/◌, ◌<◌, length}
use Rattle.stack_inverse.specs.Marks.{mark_at, HaveWords}
use Rattle.stack_inverse.proofs.marking.first_places.Given as goal

abbrev pub invariant-loop-r : goal.invariant-loop-r
invariant-loop-r l = record {
  long : length l.places.items ≡ l.r;
  wide : HaveWords l.places.items (suc ((l.first.rows + 1) / 64));
  diagonal : (k : ℕ) → k < l.r → mark_at l.places.items k k ≢ 0;
}
