use mathlib.Core.Logic.{inl, inr}
use Rattle.stack_contact.proofs.OnePair.{are-contacts, separated-by}
use Rattle.stack_contact.proofs.pair.contacts.Goals as goal

pub common-points-requires : goal.common-points-requires
common-points-requires c = c.in-Some.ensures.separates

pub tangent_of-tangent-requires : goal.tangent_of-tangent-requires
tangent_of-tangent-requires c = c.in-Some.ensures.separates

pub returns-in-Some-clause-found : goal.returns-in-Some-clause-found
returns-in-Some-clause-found c = are-contacts c.args.p.now c.args.q.now c.valid.ensures
    c.valid-2.ensures c.in-Some.e.which c.in-Some.e.index c.in-Some.ensures.separates
    c.common-points.result c.common-points.ensures.points c.tangent_of-tangent.result
    c.tangent_of-tangent.ensures
    c.made.result c.made.ensures

pub returns-in-None-clause-separated : goal.returns-in-None-clause-separated
returns-in-None-clause-separated c h = elim h [
  | inl a ↦ c.in-None.ensures.first.0 a.0 a.1
  | inr b ↦ c.in-None.ensures.first.1 b.0 b.1
]

pub returns-in-None-clause-overlap : goal.returns-in-None-clause-overlap
returns-in-None-clause-overlap c = c.in-None.ensures.overlap

pub returns-in-Some-clause-separated : goal.returns-in-Some-clause-separated
returns-in-Some-clause-separated c = separated-by c.args.p.now c.args.q.now c.in-Some.e.which c.in-Some.e.index
    c.in-Some.ensures.separates

pub returns-in-Some-clause-overlap : goal.returns-in-Some-clause-overlap
returns-in-Some-clause-overlap c = c.in-Some.ensures.apart
