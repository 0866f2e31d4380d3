use Rattle.std.proofs.Common.{ap, ◌∙◌}
use Rattle.stack_certificate.specs.Certificate.{motion_view}
use Rattle.stack_equilibrium.specs.SurveyScene.{bearing_of}
use Rattle.stack_equilibrium.specs.WrittenVelocities.{gap_at, told_gap}
use Rattle.stack_equilibrium.proofs.SceneRates.{rates_settle}
use Rattle.stack_equilibrium.proofs.openings.opening.Goals as goal

pub returns-clause-written : goal.returns-clause-written
returns-clause-written c = c.as_pair.ensures ∙ ap told_gap c.gap_of_bearing.ensures
    ∙ ap (λ moves. told_gap (gap_at c.args.s.now moves (bearing_of c.args.s.now c.args.k)))
    c.as_slice.ensures.value

pub returns-clause-rates : goal.returns-clause-rates
returns-clause-rates c = rates_settle c.args.s.now (motion_view c.args.y.now) c.args.k c.as_pair.result
    (returns-clause-written c)
