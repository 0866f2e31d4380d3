use Rattle.stack_work.specs.Listing.{contacts_work}
use Rattle.stack_work.proofs.Steps.{then_alone, refused}
use Rattle.stack_forms.proofs.forms.listing.contacts_form.Goals as goal

pub returns-in-Ok : goal.returns-in-Ok
unfolding contacts_work
returns-in-Ok g c =
    then_alone g.F.Shelf _ _ _ _ _ _ c.in-Ok.survey _
    c.in-Ok.ensures c.list.ensures

pub returns-in-Err : goal.returns-in-Err
unfolding contacts_work
returns-in-Err g c = refused _ _ _ _ _ c.in-Err.refusal c.in-Err.ensures
