use Rattle.stack_frame.proofs.FramesOfDirections.{divisor-of}
use Rattle.stack_frame.proofs.frame.divisor_of.Goals as goal

pub returns : goal.returns
returns c = divisor-of c.args.dx c.args.dy _ _ _ c.ranges.dx c.ranges.dy c.requires.dx c.requires.dy c.requires.some
    c.unsigned_abs.ensures.value c.unsigned_abs-2.ensures.value c.common_divisor.ensures
