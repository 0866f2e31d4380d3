use Rattle.std.proofs.Common.{ℕ, ◌<◌}
use lib.IntN.{pos}
use Rattle.stack_algebra.specs.IntegerOrder.{◌≼◌}
use Rattle.stack_polygon.specs.Corners.{corner_of, side_of}
use Rattle.stack_overlap.proofs.separating.separates.Given as goal

abbrev pub invariant-loop-j : goal.invariant-loop-j
invariant-loop-j l = (j : ℕ) → j < l.j → side_of l.p l.i (corner_of l.q j) ≼ pos 0
