use Rattle.stack_judge.proofs.Judgements.{table_of_posed}
use Rattle.stack_judge.proofs.judging.table_of_survey.Goals as goal

pub returns-in-Ok : goal.returns-in-Ok
returns-in-Ok c = table_of_posed c.args.q c.args.s.now c.in_ok-problem.problem c.in-Ok.table
    c.in_ok-problem.ensures.condition c.in_ok-problem.ensures.problem c.in-Ok.ensures.shape c.in-Ok.ensures.ok
    c.in-Ok.ensures.flips
