use Rattle.stack_judge.proofs.Budgets.{tables_have_these}
use Rattle.stack_judge.proofs.laws.columns_law.Goals as goal

pub returns : goal.returns
returns c = tables_have_these c.free_body_laws.ensures.surveys
