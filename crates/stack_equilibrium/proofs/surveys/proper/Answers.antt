use Rattle.stack_equilibrium.proofs.BearingSizes.{survey_proper}
use Rattle.stack_equilibrium.proofs.surveys.proper.Goals as goal

pub returns : goal.returns
returns c = survey_proper c.args.s.now c.within.ensures.sound c.within.ensures.survey
