use Rattle.stack_work.specs.Building.{stages_work}
use Rattle.stack_work.proofs.Steps.{then, refused}
use Rattle.stack_forms.proofs.forms.building.stages_form.Goals as goal

pub returns-in-Ok : goal.returns-in-Ok
unfolding stages_work
returns-in-Ok g c =
    then g.F.Shelf _ _ _ _ _ _ _ c.in-Ok.survey _
    c.in-Ok.ensures c.order_file.ensures

pub returns-in-Err : goal.returns-in-Err
unfolding stages_work
returns-in-Err g c = refused _ _ _ _ _ c.in-Err.refusal c.in-Err.ensures
