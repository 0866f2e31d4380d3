use Rattle.stack_work.proofs.AcceptedFiles.{only_accepted, all_accepted}
use Rattle.stack_said.proofs.laws.goes_on_with_accepted_models.Goals as goal

pub returns-clause-only : goal.returns-clause-only
returns-clause-only c = only_accepted

pub returns-clause-all : goal.returns-clause-all
returns-clause-all c = all_accepted
