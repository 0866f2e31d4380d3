use Rattle.std.proofs.Common.{ℕ, ◌<◌, ◌≢◌}
use lib.IntN.{pos}
use Rattle.stack_algebra.specs.IntegerOrder.{◌≺◌}
use Rattle.stack_polygon.specs.Plane.{triangle_of}
use Rattle.stack_polygon.specs.Corners.{corner_of}
use Rattle.stack_polygon.proofs.lists.is_clear.Given as goal

abbrev pub invariant-loop-j : goal.invariant-loop-j
invariant-loop-j l = (j : ℕ) → j < l.j → j ≢ l.i → j ≢ l.k → pos 0 ≺ triangle_of l.a l.b (corner_of l.corners j)
