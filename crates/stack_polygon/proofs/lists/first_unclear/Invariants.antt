use Rattle.std.proofs.Common.{ℕ, ◌<◌}
use Rattle.stack_polygon.specs.Corners.{IsClear}
use Rattle.stack_polygon.proofs.lists.first_unclear.Given as goal

abbrev pub invariant-loop-i : goal.invariant-loop-i
invariant-loop-i l = (k : ℕ) → k < l.i → IsClear l.corners k
