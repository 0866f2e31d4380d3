use Rattle.stack_said.proofs.CheckEnds.{accepted_of_files, rejected_of_files, files_hold_one}
use Rattle.stack_said.proofs.laws.accepted_is_true_of_files.Goals as goal

pub returns-clause-accepted : goal.returns-clause-accepted
returns-clause-accepted c = accepted_of_files

pub returns-clause-rejected : goal.returns-clause-rejected
returns-clause-rejected c = rejected_of_files

pub returns-clause-one : goal.returns-clause-one
returns-clause-one c = files_hold_one
