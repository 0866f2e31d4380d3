-- The reversed survey is the survey of the reversed structure.
use Rattle.std.proofs.Common.{refl, sym, subst}
use Rattle.stack_contact.specs.Surveyed.{Surveyed, IsSurvey}
use Rattle.stack_contact.proofs.SameContacts.{same_contacts}
use Rattle.stack_range.specs.Reversed.{reversed_structure, reversed_survey}
use Rattle.stack_range.specs.Laws.{ReversedIsSurveyed}

own : (v : Surveyed) → IsSurvey v.structure v → IsSurvey (reversed_structure v.structure) (reversed_survey v)
own v h = same_contacts v (reversed_structure v.structure) refl refl refl h

pub reversed_is_surveyed : ReversedIsSurveyed
reversed_is_surveyed s v h = subst (λ t. IsSurvey (reversed_structure t) (reversed_survey v)) h.structure
    (own v (subst (λ t. IsSurvey t v) (sym h.structure) h))
