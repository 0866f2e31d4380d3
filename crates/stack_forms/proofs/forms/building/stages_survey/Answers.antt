use Rattle.std.proofs.Common.{◌∙◌, Err, subst, ap, inl, refl}
use Rattle.stack_stages.specs.Staged.{staged}
use Rattle.stack_lines.specs.declared.refusal.Refusal.TheVariants.{Spent}
use Rattle.stack_stages.specs.Gives.{stages_view, GivesStages, RefusesFirstStage}
use Rattle.stack_work.specs.Answers.{stages_due}
use Rattle.stack_work.specs.Building.{stages_step}
use Rattle.stack_work.proofs.OneStep.{ends_giving, ends_refusing}
use Rattle.stack_work.proofs.StagesEnds.{is_stage, stages_give}
use Rattle.stack_forms.proofs.forms.building.stages_survey.Goals as goal

pub wide_stage-requires : goal.wide_stage-requires
wide_stage-requires c =
    let h = subst (λ e. RefusesFirstStage (Err e) c.args.survey.now c.args.order.now c.args.budget)
    c.in-Err-TooWide.field-0-is c.in-Err-TooWide.ensures.refused in
    is_stage c.args.survey.now c.args.order.now c.args.budget c.in-Err-TooWide.stage _ h

pub returns-in_ok-write_stages-in-Ok : goal.returns-in_ok-write_stages-in-Ok
returns-in_ok-write_stages-in-Ok c holds = (
  stages_due c.args.survey.now c.args.order.now (stages_view c.in-Ok.found),
  record {
    are_true = c.in-Ok.ensures.certified;
    stand_and_fall = c.in-Ok.ensures.settled;
    is_verdict = c.stages_verdict.ensures;
    is_text = c.in_ok-write_stages-in-Ok.ensures;
  },
  ends_giving holds (ap (stages_step c.args.budget c.args.survey.now c.args.order.now) c.in-Ok.ensures.gives
      ∙ stages_give c.args.survey.now c.args.order.now c.args.budget (stages_view c.in-Ok.found)
      c.in-Ok.ensures.certified),
)

pub returns-in-Err-TooWide : goal.returns-in-Err-TooWide
returns-in-Err-TooWide c holds =
    let h = subst (λ e. GivesStages (Err e) (staged c.args.survey.now c.args.order.now c.args.budget))
    c.in-Err-TooWide.field-0-is c.in-Err-TooWide.ensures.gives in
    ends_refusing holds c.wide_stage.result (ap (stages_step c.args.budget c.args.survey.now c.args.order.now) h)
    c.wide_stage.ensures

pub returns-in-Err-Spent : goal.returns-in-Err-Spent
returns-in-Err-Spent c holds =
    let h = subst (λ e. GivesStages (Err e) (staged c.args.survey.now c.args.order.now c.args.budget))
    c.in-Err-Spent.field-0-is c.in-Err-Spent.ensures.gives in
    ends_refusing holds (Spent c.args.budget) (ap (stages_step c.args.budget c.args.survey.now c.args.order.now) h)
    (inl refl)
