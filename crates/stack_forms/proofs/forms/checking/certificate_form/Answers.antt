use Rattle.stack_work.specs.Checking.{certificate_work}
use Rattle.stack_work.proofs.Steps.{then, refused}
use Rattle.stack_forms.proofs.forms.checking.certificate_form.Goals as goal

pub returns-in-Ok : goal.returns-in-Ok
unfolding certificate_work
returns-in-Ok g c =
    then g.F.Shelf _ _ _ _ _ _ _ c.in-Ok.survey _
    c.in-Ok.ensures c.certificate_file.ensures

pub returns-in-Err : goal.returns-in-Err
unfolding certificate_work
returns-in-Err g c = refused _ _ _ _ _ c.in-Err.refusal c.in-Err.ensures
