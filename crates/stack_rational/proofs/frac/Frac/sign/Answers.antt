use Rattle.stack_rational.proofs.Signs.{sign-zero, sign-below, sign-above}
use Rattle.stack_rational.proofs.frac.Frac.sign.Goals as goal

pub returns-then-is_zero : goal.returns-then-is_zero
returns-then-is_zero g c = sign-zero _ _ _ _ _ c.self.invariant.stored c.self.view_is
    (c.is_zero.ensures.value g.met.T.Integral.exact_law) c.if-is_zero.true

pub returns-then-is_minus : goal.returns-then-is_minus
returns-then-is_minus g c = sign-below _ _ _ _ _ c.self.invariant.stored c.self.view_is c.is_minus.ensures
    c.if-is_minus.true

pub returns-else-is_minus : goal.returns-else-is_minus
returns-else-is_minus g c = sign-above _ _ _ _ _ _ c.self.invariant.stored c.self.view_is
    (c.is_zero.ensures.value g.met.T.Integral.exact_law)
    c.if-is_zero.false c.is_minus.ensures c.if-is_minus.false
