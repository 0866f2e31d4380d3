use Rattle.std.proofs.Common.{sym, ap, subst, ◌∙◌}
use Rattle.stack_equilibrium.specs.declared.types.Question.TheVariants.{Dead}
use Rattle.stack_judge.specs.Judgement.{certified, judgement}
use Rattle.stack_judge.specs.Judged.{IsJudged}
use Rattle.stack_stages.specs.Gives.{outcome_view}
use Rattle.stack_stages.proofs.judging.judge_stage.Goals as goal

pub returns-in-Ok-clause-gives : goal.returns-in-Ok-clause-gives
returns-in-Ok-clause-gives c = ap (λ v. judgement Dead v c.args.budget) (sym c.in_ok-stage.ensures)
    ∙ c.in-Ok.ensures.judges.1 ∙ ap certified (sym c.outcome_of.ensures)

pub returns-in-Ok-clause-judged : goal.returns-in-Ok-clause-judged
returns-in-Ok-clause-judged c = subst (λ v. IsJudged Dead v (outcome_view c.outcome_of.result)) c.in_ok-stage.ensures
    (subst (IsJudged Dead c.in_ok-stage.stage) (sym c.outcome_of.ensures) c.in-Ok.ensures.judged)
