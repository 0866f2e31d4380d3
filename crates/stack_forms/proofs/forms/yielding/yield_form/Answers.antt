use Rattle.stack_work.specs.Yielding.{yield_work}
use Rattle.stack_work.proofs.Steps.{then, refused}
use Rattle.stack_forms.proofs.forms.yielding.yield_form.Goals as goal

pub returns-in-Ok : goal.returns-in-Ok
unfolding yield_work
returns-in-Ok g c =
    then g.F.Shelf _ _ _ _ _ _ _ c.in-Ok.survey _
    c.in-Ok.ensures c.loads_file.ensures

pub returns-in-Err : goal.returns-in-Err
unfolding yield_work
returns-in-Err g c = refused _ _ _ _ _ c.in-Err.refusal c.in-Err.ensures
