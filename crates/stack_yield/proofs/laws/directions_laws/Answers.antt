use Rattle.stack_yield.proofs.FirstDirection.{outcomes_are_by_directions, directions_are_decided}
use Rattle.stack_yield.proofs.laws.directions_laws.Goals as goal

pub returns : goal.returns
returns c = record { by_directions = outcomes_are_by_directions; decided = directions_are_decided }
