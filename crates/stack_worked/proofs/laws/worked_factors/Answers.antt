use Rattle.stack_worked.proofs.WorkedFactors.{factors_of_worked_scenes}
use Rattle.stack_worked.proofs.laws.worked_factors.Goals as goal

pub returns : goal.returns
returns c = factors_of_worked_scenes c.certificate_laws.ensures.stands c.certificate_laws.ensures.collapse
    c.certificate_laws.ensures.greatest c.certificate_laws.ensures.bound c.certificate_laws.ensures.all
