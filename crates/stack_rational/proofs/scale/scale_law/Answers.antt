use Rattle.stack_rational.proofs.Multiples.{scale_is_least_multiple, times_scale-is}
use Rattle.stack_rational.proofs.scale.scale_law.Goals as goal

pub returns-clause-least : goal.returns-clause-least
returns-clause-least c = scale_is_least_multiple

pub returns-clause-whole : goal.returns-clause-whole
returns-clause-whole c = times_scale-is
