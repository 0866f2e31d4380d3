use Rattle.stack_rational.proofs.Signs.{is_zero-stored}
use Rattle.stack_rational.proofs.frac.Frac.is_zero.Goals as goal

pub returns : goal.returns
returns g c = is_zero-stored _ _ _ _ _ c.self.invariant.stored c.self.view_is
    (c.is_zero.ensures.value g.met.T.Integral.exact_law)
