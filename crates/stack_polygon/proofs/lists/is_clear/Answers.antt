use Rattle.std.proofs.Common.{◌≢◌, below_more, rules}
use lib.IntN.{pos}
use Rattle.stack_algebra.specs.IntegerOrder.{◌≺◌}
use Rattle.stack_polygon.specs.Plane.{triangle_of}
use Rattle.stack_polygon.specs.Corners.{corner_of}
use Rattle.stack_polygon.proofs.lists.is_clear.Goals as goal
use Rattle.stack_polygon.proofs.lists.is_clear.Goals.{else-j-i-via-then-j-i+then-j-k+else-not-is_left}
use Rattle.stack_polygon.proofs.lists.is_clear.Goals.{else-j-i-via-then-j-i+else-j-k, else-j-i-via-else-j-i}

pub loop-j-preserved : goal.loop-j-preserved
loop-j-preserved c = below_more (λ j. j ≢ c.args.i → j ≢ c.next-k.result
    → pos 0 ≺ triangle_of (corner_of c.args.corners.now c.args.i)
    (corner_of c.args.corners.now c.next-k.result) (corner_of c.args.corners.now j)) _
    c.loop-j.invariant
    (elim c.else-j-i.branch [
      | else-j-i-via-then-j-i+then-j-k+else-not-is_left w ↦ λ n m. w.is_left.ensures.0 (search rules)
      | else-j-i-via-then-j-i+else-j-k w ↦ λ n m. absurd (search rules)
      | else-j-i-via-else-j-i w ↦ λ n m. absurd (search rules)
    ])
