use Rattle.stack_work.specs.Surveying.{surveyed_file}
use Rattle.stack_work.proofs.Steps.{then_alone, refused}
use Rattle.stack_forms.proofs.surveying.survey_file.Goals as goal

pub returns-in-Ok : goal.returns-in-Ok
unfolding surveyed_file
returns-in-Ok g c =
    then_alone g.F.Shelf _ _ _ _ _ _ c.in-Ok.model _
    c.in-Ok.ensures c.survey_model.ensures

pub returns-in-Err : goal.returns-in-Err
unfolding surveyed_file
returns-in-Err g c = refused _ _ _ _ _ c.in-Err.refusal c.in-Err.ensures
