use Rattle.stack_extract.proofs.WholeEnds.{ends_are_whole}
use Rattle.stack_extract.proofs.end_laws.end_law.Goals as goal

pub returns : goal.returns
returns c = ends_are_whole
