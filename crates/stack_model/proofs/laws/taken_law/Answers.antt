use Rattle.stack_model.proofs.Taken.{taken}
use Rattle.stack_model.proofs.laws.taken_law.Goals as goal

pub returns : goal.returns
returns c = taken
