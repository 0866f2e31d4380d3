use Rattle.std.proofs.Common.{◌∙◌}
use Rattle.stack_rational.proofs.ShortCuts.{zero_times, times_zero, zero_fits, stored_zero}
use Rattle.stack_rational.proofs.frac.Frac.product.Goals as goal

pub returns-then-is_zero-clause-ok : goal.returns-then-is_zero-clause-ok
returns-then-is_zero-clause-ok g c = c.zero.ensures
    ∙ zero_times c.args.self c.args.other
    (stored_zero _ _ _ _ c.self.invariant.stored c.self.view_is
    ((c.is_zero.ensures.value g.met.T.Integral.exact_law).0 c.if-is_zero.true))

pub returns-then-is_zero-clause-fits : goal.returns-then-is_zero-clause-fits
returns-then-is_zero-clause-fits g c = zero_fits g.T.Integer.MAX _
    g.met.T.Integer.laws.greatest.0
    (zero_times c.args.self c.args.other
    (stored_zero _ _ _ _ c.self.invariant.stored c.self.view_is
    ((c.is_zero.ensures.value g.met.T.Integral.exact_law).0 c.if-is_zero.true)))

pub returns-then-is_zero-2-clause-ok : goal.returns-then-is_zero-2-clause-ok
returns-then-is_zero-2-clause-ok g c = c.zero-then-is_zero-2.ensures
    ∙ times_zero c.args.self c.args.other
    (stored_zero _ _ _ _ c.other.invariant.stored c.other.view_is
    ((c.is_zero-2.ensures.value g.met.T.Integral.exact_law).0 c.if-is_zero-2.true))

pub returns-then-is_zero-2-clause-fits : goal.returns-then-is_zero-2-clause-fits
returns-then-is_zero-2-clause-fits g c = zero_fits g.T.Integer.MAX _
    g.met.T.Integer.laws.greatest.0
    (times_zero c.args.self c.args.other
    (stored_zero _ _ _ _ c.other.invariant.stored c.other.view_is
    ((c.is_zero-2.ensures.value g.met.T.Integral.exact_law).0 c.if-is_zero-2.true)))
