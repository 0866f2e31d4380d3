use Rattle.stack_directions.proofs.DirectionLines.{not_limited}
use Rattle.stack_directions.proofs.directions.body_direction.Goals as goal

pub returns-clause-none : goal.returns-clause-none
returns-clause-none c = not_limited c.limited.result c.in-Some-read_two.numbers.0 c.in-Some-read_two.numbers.1 _ _
    c.in-Some.ensures.some c.in-Some-read_two.ensures.some c.limited.ensures.none
