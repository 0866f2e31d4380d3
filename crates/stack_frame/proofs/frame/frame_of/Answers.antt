use Rattle.std.proofs.Common.{w64, SFits}
use Rattle.stack_frame.proofs.FramesOfDirections.{divisor-at, frame-is, part-of, part-step}
use Rattle.stack_frame.proofs.frame.frame_of.Goals as goal

pub returns-clause-direction : goal.returns-clause-direction
returns-clause-direction c =
    let d = divisor-at c.args.dx c.args.dy _ c.ranges.dx c.ranges.dy c.divisor_of-divisor.ensures in
    let x : SFits w64 c.quotient.result = record { sfits = c.quotient.type_inv } in
    let y : SFits w64 c.quotient-2.result = record { sfits = c.quotient-2.type_inv } in
    frame-is c.args.dx c.args.dy _ _ d.positive d.greatest
    (part-of _ _ _ c.ranges.dx x c.quotient.ensures) (part-of _ _ _ c.ranges.dy y c.quotient-2.ensures)

pub returns-clause-tx : goal.returns-clause-tx
returns-clause-tx c =
    let d = divisor-at c.args.dx c.args.dy _ c.ranges.dx c.ranges.dy c.divisor_of-divisor.ensures in
    let z : SFits w64 c.quotient.result = record { sfits = c.quotient.type_inv } in
    part-step c.args.dx _ _ d.positive (part-of _ _ _ c.ranges.dx z c.quotient.ensures) c.requires.dx

pub returns-clause-ty : goal.returns-clause-ty
returns-clause-ty c =
    let d = divisor-at c.args.dx c.args.dy _ c.ranges.dx c.ranges.dy c.divisor_of-divisor.ensures in
    let z : SFits w64 c.quotient-2.result = record { sfits = c.quotient-2.type_inv } in
    part-step c.args.dy _ _ d.positive (part-of _ _ _ c.ranges.dy z c.quotient-2.ensures) c.requires.dy

pub invariant_of-result : goal.invariant_of-result
invariant_of-result c = record {
  tx = returns-clause-tx c;
  ty = returns-clause-ty c;
  lowest = (returns-clause-direction c).lowest;
}
