use Rattle.std.proofs.Common.{sym, subst}
use Rattle.stack_model.specs.ModelView.{model_view}
use Rattle.stack_model.specs.Structure.{HasLive}
use Rattle.stack_contact.specs.Surveyed.{Surveyed}
use Rattle.stack_work.proofs.Common.{Answer, AnswersDue, Due, sampled, survey_step, surveys}
use Rattle.stack_work.specs.Progress.{IsSeenSurvey}
use Rattle.stack_work.proofs.AcceptedFiles.{same_structure}
use Rattle.stack_work.proofs.Steps.{alone_then, alone_refused}
use Rattle.stack_forms.proofs.forms.sampling.sample_wall.Goals as goal

pub sample_survey-requires : goal.sample_survey-requires
sample_survey-requires c = subst HasLive (sym (same_structure
    (model_view c.args.model) c.in-Ok.survey c.in-Ok.ensures))
    c.requires

pub returns-in-Ok : goal.returns-in-Ok
returns-in-Ok c = alone_then AnswersDue (λ x. x)
    (surveys (model_view c.args.model) (survey_step (model_view c.args.model))) (sampled c.args.number) c.in-Ok.survey
    c.sample_survey.result c.in-Ok.ensures c.sample_survey.ensures

pub returns-in-Err : goal.returns-in-Err
returns-in-Err c = alone_refused {A = Surveyed} {B = Due} {X = Surveyed} {Y = Answer} IsSeenSurvey
    AnswersDue
    (surveys (model_view c.args.model) (survey_step (model_view c.args.model))) (sampled c.args.number) c.in-Err.refusal
    c.in-Err.ensures
