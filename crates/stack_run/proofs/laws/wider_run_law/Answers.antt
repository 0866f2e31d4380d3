use Rattle.stack_run.proofs.Wider.{wider_run_is_same}
use Rattle.stack_run.proofs.laws.wider_run_law.Goals as goal

pub returns : goal.returns
returns c = wider_run_is_same
