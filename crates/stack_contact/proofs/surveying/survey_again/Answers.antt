use Rattle.std.proofs.Common.{sym, ◌∙◌, subst}
use Rattle.stack_contact.specs.Surveyed.{surveyed, IsSurvey}
use Rattle.stack_contact.proofs.SameContacts.{same_contacts}
use Rattle.stack_contact.proofs.surveying.survey_again.Goals as goal

pub invariant_of-result : goal.invariant_of-result
invariant_of-result c =
    let m = c.args.model in
    subst (λ bs. IsSurvey m (surveyed m bs c.in_ok-touches.touches.items))
    (sym (c.in_ok-bearings.ensures.items ∙ c.bearings.ensures.value))
    (subst (λ ts. IsSurvey m (surveyed m c.args.s.now.bearings ts))
    (sym (c.in_ok-touches.ensures.items ∙ c.touches.ensures))
    (same_contacts c.args.s.now m c.requires.materials c.requires.joints c.requires.bodies c.bearings.ensures.survey))
