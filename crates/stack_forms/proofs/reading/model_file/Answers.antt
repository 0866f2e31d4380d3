use Rattle.stack_work.specs.Surveying.{modelled}
use Rattle.stack_work.proofs.Steps.{then_alone, refused}
use Rattle.stack_forms.proofs.reading.model_file.Goals as goal

pub returns-in-Ok : goal.returns-in-Ok
unfolding modelled
returns-in-Ok g c =
    then_alone g.F.Shelf _ _ _ _ _ _ c.in-Ok.text _
    c.in-Ok.ensures (rw c.as_slice.ensures.value at c.model_text.ensures)

pub returns-in-Err : goal.returns-in-Err
unfolding modelled
returns-in-Err g c = refused _ _ _ _ _ c.in-Err.refusal c.in-Err.ensures
