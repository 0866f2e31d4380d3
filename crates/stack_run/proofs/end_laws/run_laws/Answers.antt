use Rattle.stack_run.proofs.FourEnds.{ends_give, some_row_leaves}
use Rattle.stack_run.proofs.end_laws.run_laws.Goals as goal

pub returns : goal.returns
returns c = record { ends = ends_give; leaving = some_row_leaves }
