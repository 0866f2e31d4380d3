use Rattle.stack_frame.proofs.LesserCones.{one-lesser}
use Rattle.stack_frame.proofs.laws.one_cone.Goals as goal

pub returns : goal.returns
returns c = one-lesser
