use Rattle.std.proofs.Common.{ℕ, ◌<◌}
use Rattle.stack_polygon.specs.Corners.{corner_of}
use Rattle.stack_polygon.specs.Limits.{IsInRange}
use Rattle.stack_polygon.proofs.lists.first_far.Given as goal

abbrev pub invariant-loop-i : goal.invariant-loop-i
invariant-loop-i l = (k : ℕ) → k < l.i → IsInRange (corner_of l.corners k)
