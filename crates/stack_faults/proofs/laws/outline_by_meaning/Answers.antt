use Rattle.stack_faults.proofs.FirstEdges.{by_meaning, few_points}
use Rattle.stack_faults.proofs.laws.outline_by_meaning.Goals as goal

pub returns-clause-meaning : goal.returns-clause-meaning
returns-clause-meaning _ = by_meaning

pub returns-clause-few : goal.returns-clause-few
returns-clause-few _ = few_points
