use Rattle.stack_said.proofs.ModelProper.{accepted_proper}
use Rattle.stack_said.proofs.laws.accepted_models_are_proper.Goals as goal

pub returns : goal.returns
returns c = accepted_proper
