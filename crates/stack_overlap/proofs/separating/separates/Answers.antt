use Prim.Native.Nat.{◌<◌}
use Rattle.std.proofs.Common.{rules, below_more, IsTrue}
use lib.IntN.{pos}
use lib.ListN.{length}
use Rattle.stack_algebra.specs.IntegerOrder.{◌≼◌}
use Rattle.stack_polygon.specs.Corners.{corner_of, side_of}
use Rattle.stack_overlap.proofs.Signs.{left-and-not, not-left}
use Rattle.stack_overlap.proofs.separating.separates.Goals as goal

pub returns-then-is_left_of_edge-clause-value : goal.returns-then-is_left_of_edge-clause-value
returns-then-is_left_of_edge-clause-value c = (
  λ h. absurd (cc h),
  λ s. absurd (
      let j : c.loop-j.j < length c.args.q.now = search rules in
      let h : IsTrue c.is_left_of_edge.result = search rules in
      left-and-not (side_of c.args.p.now c.args.i)
      (corner_of c.args.q.now c.loop-j.j) c.corner.result c.corner.ensures.value
      (c.is_left_of_edge.ensures.0 h) (s.apart c.loop-j.j j)),
)

pub loop-j-preserved : goal.loop-j-preserved
loop-j-preserved c = below_more (λ j. side_of c.args.p.now c.args.i
    (corner_of c.args.q.now j) ≼ pos 0) _ c.loop-j.invariant
    (not-left (side_of c.args.p.now c.args.i)
    (corner_of c.args.q.now c.loop-j.j) c.corner.result c.corner.ensures.value
    (λ h. let t : IsTrue c.is_left_of_edge.result = c.is_left_of_edge.ensures.1 h in search rules))
