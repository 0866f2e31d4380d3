use Rattle.std.proofs.Common.{◌≡◌, refl, sym, ap, ◌∙◌, Ok}
use lib.IntN.{pos}
use Rattle.stack_equilibrium.proofs.Common.{ForcesValue, MotionValue, Surveyed, forces_view, motion_view, written_power}
use Rattle.stack_equilibrium.specs.declared.types.Question.TheVariants.{Live}
use Rattle.stack_pairs.specs.Directed.{directed_survey}
use Rattle.stack_yield.proofs.Accepted.{power_fits}
use Rattle.stack_yield.proofs.BoundedReaches.{bounded_is, moves_for, less_dead_is, point_told, half_told, factor_cast}
use Rattle.stack_yield.proofs.BoundedReaches.{bounded_by, factor_fits, power_told}
use Rattle.stack_yield.proofs.FittingReaches.{point_fits, half_fits}
use Rattle.stack_directions.proofs.Points.{fitting_cast}
use Rattle.stack_yield.proofs.judging.bounded_reach.Goals as goal

pub power-requires : goal.power-requires
power-requires c = moves_for c.args.s.now c.args.t.i c.args.t.j c.args.t.m c.args.t.n (pos 1) (pos 0)
    c.args.judged.now c.args.towards_first.now (forces_view c.args.forces) (motion_view c.args.motion)
    c.requires.towards c.requires.first c.requires.judged

pub power-requires-2 : goal.power-requires-2
power-requires-2 c = moves_for c.args.s.now c.args.t.i c.args.t.j c.args.t.m c.args.t.n (pos 0) (pos 1)
    c.args.judged.now c.args.towards_second.now (forces_view c.args.forces) (motion_view c.args.motion)
    c.requires.towards c.requires.second c.requires.judged

pub returns-clause-outcome : goal.returns-clause-outcome
returns-clause-outcome c =
    let y : MotionValue = motion_view c.args.motion in
    let f : ForcesValue = forces_view c.args.forces in
    let k = c.requires.factors in
    let em = factor_cast c.args.t.m k.least_m k.most_m in
    let en = factor_cast c.args.t.n k.least_n k.most_n in
    let vp : Surveyed = directed_survey c.args.s.now c.args.t.i c.args.t.j (pos 1) (pos 0) in
    let vq : Surveyed = directed_survey c.args.s.now c.args.t.i c.args.t.j (pos 0) (pos 1) in
    let wp : written_power Live vp y ≡ Ok c.in-Ok.p =
    power_told _ _ y _ _ c.requires.first c.power.ensures.written c.in-Ok.is in
    let wq : written_power Live vq y ≡ Ok c.in-Ok-power.q =
    power_told _ _ y _ _ c.requires.second c.power-2.ensures.written c.in-Ok-power.is in
    bounded_is c.args.s.now c.args.t.i c.args.t.j c.args.t.m c.args.t.n f y _ _ c.in-Ok.p c.in-Ok-power.q
    c.dead_power-r.result _ _ _ c.in-Some.at em en
    (fitting_cast c.in-Ok.p (power_fits Live vp y c.in-Ok.p wp))
    (fitting_cast c.in-Ok-power.q (power_fits Live vq y c.in-Ok-power.q wq))
    (fitting_cast c.dead_power-r.result c.dead_power-r.ensures.fits) wp wq
    (point_told c.args.t.m c.args.t.n _ _ f c.widened.result c.widened-2.result c.point.result _ c.widened.ensures em
    c.widened-2.ensures en c.point.ensures c.in-Some.is)
    (half_told c.args.towards_first.now y c.in-Ok.p _ c.requires.first c.in-Ok.ensures.value)
    (half_told c.args.towards_second.now y c.in-Ok-power.q _ c.requires.second c.in-Ok-power.ensures.value)
    (c.dead_power-r.ensures.value ∙ less_dead_is c.args.s.now c.args.t.i c.args.t.j c.args.t.m c.args.t.n
    c.args.judged.now y
    c.requires.pair c.requires.towards)

pub returns-clause-fits : goal.returns-clause-fits
returns-clause-fits c =
    let y : MotionValue = motion_view c.args.motion in
    let f : ForcesValue = forces_view c.args.forces in
    let fp = power_fits Live c.args.towards_first.now y c.in-Ok.p (sym c.power.ensures.written ∙ c.in-Ok.is) in
    let fq = power_fits Live c.args.towards_second.now y c.in-Ok-power.q
    (sym c.power-2.ensures.written ∙ c.in-Ok-power.is) in
    let fr = c.dead_power-r.ensures.fits in (
      point_fits c.widened.result.value c.widened-2.result.value f c.in-Some.at (sym c.point.ensures ∙ c.in-Some.is),
      half_fits c.in-Ok.p c.in-Ok-power.q c.dead_power-r.result _ _ _ (fitting_cast c.in-Ok.p fp)
          (fitting_cast c.in-Ok-power.q fq) (fitting_cast c.dead_power-r.result fr) fp fq fr,
    )

pub point-requires-clause-first : goal.point-requires-clause-first
point-requires-clause-first c = let k = c.requires.factors in
    factor_fits c.args.t.m c.widened.result c.widened.ensures k.least_m k.most_m

pub point-requires-clause-second : goal.point-requires-clause-second
point-requires-clause-second c = let k = c.requires.factors in
    factor_fits c.args.t.n c.widened-2.result c.widened-2.ensures k.least_n k.most_n

pub returns-in_default-clause-outcome : goal.returns-in_default-clause-outcome
returns-in_default-clause-outcome c =
    let y : MotionValue = motion_view c.args.motion in
    bounded_by c.args.s.now c.args.t.i c.args.t.j c.args.t.m c.args.t.n (forces_view c.args.forces) y
    (power_told _ _ y _ _ c.requires.first c.power.ensures.written c.in_default.is) refl refl

pub returns-in_default-power-clause-outcome : goal.returns-in_default-power-clause-outcome
returns-in_default-power-clause-outcome c =
    let y : MotionValue = motion_view c.args.motion in
    bounded_by c.args.s.now c.args.t.i c.args.t.j c.args.t.m c.args.t.n (forces_view c.args.forces) y
    (power_told _ _ y _ _ c.requires.first c.power.ensures.written c.in-Ok.is)
    (power_told _ _ y _ _ c.requires.second c.power-2.ensures.written c.in_default-power.is) refl

pub returns-in_default-point-clause-outcome : goal.returns-in_default-point-clause-outcome
returns-in_default-point-clause-outcome c =
    let y : MotionValue = motion_view c.args.motion in
    let k = c.requires.factors in
    bounded_by c.args.s.now c.args.t.i c.args.t.j c.args.t.m c.args.t.n (forces_view c.args.forces) y
    (power_told _ _ y _ _ c.requires.first c.power.ensures.written c.in-Ok.is)
    (power_told _ _ y _ _ c.requires.second c.power-2.ensures.written c.in-Ok-power.is)
    (point_told c.args.t.m c.args.t.n _ _ (forces_view c.args.forces) c.widened.result c.widened-2.result c.point.result
    _ c.widened.ensures (factor_cast c.args.t.m k.least_m k.most_m) c.widened-2.ensures
    (factor_cast c.args.t.n k.least_n k.most_n) c.point.ensures c.in_default-point.is)
