use Rattle.stack_judge.proofs.Budgets.{suffices}
use Rattle.stack_judge.proofs.judging.judge.Goals as goal

pub returns-clause-suffices : goal.returns-clause-suffices
returns-clause-suffices c = λ b n e l is. suffices c.budget_law.ensures.enough c.columns_law.ensures c.args.q
    c.args.s.now c.args.budget _ c.judge_by_run.ensures.judges b n e l is
