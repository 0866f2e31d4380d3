use Rattle.stack_certificate.specs.Certificate.{motion_view}
use Rattle.stack_equilibrium.specs.WrittenPowers.{told_power, summed_power}
use Rattle.std.proofs.Common.{ap, ◌∙◌}
use Rattle.stack_equilibrium.proofs.ScenePowers.{power_settles}
use Rattle.stack_equilibrium.proofs.powers.power.Goals as goal

pub returns-clause-written : goal.returns-clause-written
returns-clause-written c = c.as_number.ensures ∙ ap told_power c.add_blocks.ensures
    ∙ ap (λ moves. told_power (summed_power c.args.q c.args.s.now moves)) c.as_slice.ensures.value

pub returns-clause-value : goal.returns-clause-value
returns-clause-value c = power_settles c.args.q c.args.s.now (motion_view c.args.y.now) c.as_number.result
    (returns-clause-written c)
