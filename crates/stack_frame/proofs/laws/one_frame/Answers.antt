use Rattle.stack_frame.proofs.FramesOfDirections.{one-frame}
use Rattle.stack_frame.proofs.Senses.{frames-by-parallels}
use Rattle.stack_frame.proofs.laws.one_frame.Goals as goal

pub returns-clause-one : goal.returns-clause-one
returns-clause-one c = one-frame

pub returns-clause-parallel : goal.returns-clause-parallel
returns-clause-parallel c = frames-by-parallels
