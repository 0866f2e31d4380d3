use Rattle.std.proofs.Common.{◌≡◌, rules, sym, subst}
use Rattle.std.proofs.lemmas.List.{get_or_default}
use Rattle.stack_contact.specs.ContactLists.{IsPair}
use Rattle.stack_equilibrium.specs.SurveyScene.{bearing_of}
use Rattle.stack_equilibrium.proofs.SurveyBearings.{bearing_is}
use Rattle.stack_posing.proofs.posing.bearing_at.Goals as goal

pub returns-clause-pair : goal.returns-clause-pair
returns-clause-pair c =
    let s = c.args.s.now in
    let is : c.index-bearings-k.result ≡ bearing_of s c.args.k = search (rules, get_or_default) in
    subst (λ z. IsPair s.structure z.first z.second) (sym is)
    (bearing_is s c.bearings.ensures.survey c.args.k c.requires).pair
