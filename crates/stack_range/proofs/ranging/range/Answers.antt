use Rattle.stack_range.proofs.AsJudgement.{as_judgement}
use Rattle.stack_range.proofs.ranging.range.Goals as goal

pub returns-clause-judges : goal.returns-clause-judges
returns-clause-judges c = as_judgement c.by_sides.result c.args.s.now c.args.budget c.by_sides.ensures.by_sides
