use Rattle.std.proofs.Common.{◌∙◌, to_z-of_z}
use Rattle.stack_frame.specs.Cones.{coefficient, lesser_of}
use Rattle.stack_frame.proofs.cone.cone_of.Goals as goal

pub lesser-requires-clause-a : goal.lesser-requires-clause-a
lesser-requires-clause-a c = rw (to_z-of_z c.ranges.p1, to_z-of_z c.ranges.q1) c.requires.first

pub lesser-requires-clause-b : goal.lesser-requires-clause-b
lesser-requires-clause-b c = rw (to_z-of_z c.ranges.p2, to_z-of_z c.ranges.q2) c.requires.second

pub returns-clause-value : goal.returns-clause-value
returns-clause-value c = c.lesser.ensures.value ∙ (λ i. lesser_of
    (coefficient (to_z-of_z c.ranges.p1 i) (to_z-of_z c.ranges.q1 i))
    (coefficient (to_z-of_z c.ranges.p2 i) (to_z-of_z c.ranges.q2 i)))

pub returns-clause-lesser : goal.returns-clause-lesser
returns-clause-lesser c = rw (
  to_z-of_z c.ranges.p1,
  to_z-of_z c.ranges.q1,
  to_z-of_z c.ranges.p2,
  to_z-of_z c.ranges.q2,
) at c.lesser.ensures.lesser
