use Rattle.std.proofs.Common.{sym, subst}
use Rattle.stack_contact.specs.declared.types.Bearing.{Bearing}
use Rattle.stack_polygon.specs.Limits.{IsInRange}
use Rattle.stack_equilibrium.proofs.BearingSizes.{survey_in_range}
use Rattle.stack_equilibrium.proofs.columns.bounded_bearing.Goals as goal

pub returns-clause-at : goal.returns-clause-at
returns-clause-at c =
    let s = c.args.s.now in
    subst (λ (z : Bearing). IsInRange z.at) (sym c.bearing_at.ensures.value)
    (survey_in_range s c.within.ensures.sound c.within.ensures.survey c.args.k c.requires)
