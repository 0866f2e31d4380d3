use Rattle.std.proofs.Common.{◌≡◌, rules, sym, subst}
use Rattle.std.proofs.lemmas.List.{get_or_default}
use Rattle.stack_contact.specs.ContactLists.{IsBearing}
use Rattle.stack_equilibrium.specs.SurveyScene.{bearing_of}
use Rattle.stack_equilibrium.proofs.SurveyBearings.{bearing_is}
use Rattle.stack_equilibrium.proofs.openings.bearing_at.Goals as goal

pub returns-clause-bearing : goal.returns-clause-bearing
returns-clause-bearing c =
    let s = c.args.s.now in
    let is : c.index-bearings-k.result ≡ bearing_of s c.args.k = search (rules, get_or_default) in
    subst (IsBearing s.structure) (sym is) (bearing_is s c.bearings.ensures.survey c.args.k c.requires)
