use Rattle.stack_overlap.proofs.Signs.{sign-positive}
use Rattle.stack_overlap.proofs.separating.is_left_of_edge.Goals as goal

pub returns : goal.returns
returns c = sign-positive _ c.side.result c.side.ensures
