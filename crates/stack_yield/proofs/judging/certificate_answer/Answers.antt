use Rattle.std.proofs.Common.{subst}
use Rattle.stack_equilibrium.proofs.Common.{Certificate, Surveyed, certificate_view, collapses, forces_view}
use Rattle.stack_equilibrium.proofs.Common.{motion_view}
use Rattle.stack_equilibrium.specs.declared.types.Question.TheVariants.{Live}
use Rattle.stack_judge.specs.Judged.{IsJudged}
use Rattle.stack_yield.proofs.BoundedReaches.{bounded_holds, factor_cast, unbounded_holds}
use Rattle.stack_yield.proofs.FallsOfModel.{falls_of_model}
use Rattle.stack_yield.proofs.judging.certificate_answer.Goals as goal

pub returns-in-Collapses-clause-holds : goal.returns-in-Collapses-clause-holds
returns-in-Collapses-clause-holds c =
    let h = subst (λ (x : Certificate). IsJudged Live c.args.judged.now (certificate_view x)) c.in-Collapses.is
    c.requires.judged in
    falls_of_model c.args.s.now c.args.t.i c.args.t.j c.args.t.m c.args.t.n (motion_view c.in-Collapses.motion)
    c.requires.pair c.proper.ensures
    (subst (λ (v : Surveyed). IsJudged Live v (collapses (motion_view c.in-Collapses.motion))) c.requires.towards h)

pub returns-in-Greatest-clause-holds : goal.returns-in-Greatest-clause-holds
returns-in-Greatest-clause-holds c = bounded_holds c.args.s.now c.args.t.i c.args.t.j c.args.t.m c.args.t.n
    (forces_view c.in-Greatest.forces) (motion_view c.in-Greatest.motion) c.args.judged.now c.bounded_reach.result
    c.requires.towards
    (subst (λ (x : Certificate). IsJudged Live c.args.judged.now (certificate_view x)) c.in-Greatest.is
    c.requires.judged) c.bounded_reach.ensures.outcome c.bounded_reach.ensures.fits

pub bounded_reach-requires-clause-judged : goal.bounded_reach-requires-clause-judged
bounded_reach-requires-clause-judged c =
    subst (λ (x : Certificate). IsJudged Live c.args.judged.now (certificate_view x)) c.in-Greatest.is c.requires.judged

pub returns-in-Unbounded-clause-holds : goal.returns-in-Unbounded-clause-holds
returns-in-Unbounded-clause-holds c = let k = c.requires.factors in
    unbounded_holds c.args.s.now c.args.t.i c.args.t.j c.args.t.m c.args.t.n _ _ c.args.judged.now
    c.in-Unbounded.base c.in-Unbounded.ray (factor_cast c.args.t.m k.least_m k.most_m)
    (factor_cast c.args.t.n k.least_n k.most_n) c.requires.towards
    (subst (λ (x : Certificate). IsJudged Live c.args.judged.now (certificate_view x)) c.in-Unbounded.is
    c.requires.judged)
