use Rattle.std.proofs.Common.{sym, ap, ◌∙◌}
use lib.IntN.{pos, ◌-ℤ◌}
use Rattle.stack_equilibrium.proofs.Common.{IsFitting, forces_view, made, motion_view}
use Rattle.stack_equilibrium.specs.declared.types.Question.TheVariants.{Dead}
use Rattle.stack_yield.proofs.Accepted.{moves_counted, not_refused, power_fits, less_fits}
use Rattle.stack_directions.proofs.Points.{fitting_cast}
use Rattle.stack_yield.proofs.judging.dead_power.Goals as goal

pub power-requires : goal.power-requires
power-requires c = moves_counted c.args.judged.now (forces_view c.args.forces.now) (motion_view c.args.motion.now)
    c.requires

pub unreachable-requires : goal.unreachable-requires
unreachable-requires c =
    let fits : IsFitting c.in-Ok.dead = power_fits Dead c.args.judged.now (motion_view c.args.motion.now) c.in-Ok.dead
    (sym c.power.ensures.written ∙ c.in-Ok.is) in
    less_fits c.in-Ok.dead c.difference.result c.in-Err-difference.field-0 fits
    (c.difference.ensures ∙ ap (λ d. made (pos 0 -ℤ d)) (fitting_cast c.in-Ok.dead fits)) c.in-Err-difference.is

pub unreachable-requires-in-Err : goal.unreachable-requires-in-Err
unreachable-requires-in-Err c = not_refused c.args.judged.now (forces_view c.args.forces.now)
    (motion_view c.args.motion.now) c.power.result c.in-Err.field-0 c.requires.accepted c.power.ensures.written
    c.in-Err.is
