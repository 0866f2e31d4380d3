use Rattle.stack_frame.proofs.FramesOfDirections.{quotient-stored}
use Rattle.stack_frame.proofs.frame.quotient.Goals as goal

pub returns : goal.returns
returns c = quotient-stored c.args.z c.args.divisor c.ranges.z c.requires.positive c.requires.limit
    c.requires.divides
