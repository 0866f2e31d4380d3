use Rattle.stack_stages.proofs.FirstDecides.{stages_are_by_stages, stages_are_decided}
use Rattle.stack_stages.proofs.laws.stages_laws.Goals as goal

pub returns : goal.returns
returns c = record { by_stages = stages_are_by_stages; decided = stages_are_decided }
