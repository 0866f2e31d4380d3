use Rattle.std.proofs.Common.{ap, not, sym, subst, ◌∙◌}
use Rattle.stack_rational.proofs.Common.{Fraction, add, neg, SumFits}
use Rattle.stack_rational.proofs.Fitting.{sum_fits-of, sum_wide-of}
use Rattle.stack_rational.proofs.exact.FracExact.difference.Goals as goal

pub returns-in-Ok-clause-ok : goal.returns-in-Ok-clause-ok
returns-in-Ok-clause-ok g c = c.in-Ok.ensures.ok ∙ ap (add c.args.self) c.negated.ensures

pub returns-in-Ok-clause-fits : goal.returns-in-Ok-clause-fits
returns-in-Ok-clause-fits g c = ap not (sum_fits-of g.T.Integer.MAX c.args.self (neg c.args.other)
    (subst (λ (y : Fraction). SumFits g.T.Integer.MAX c.args.self y) c.negated.ensures c.in-Ok.ensures.fits))

pub returns-in-Err-clause-wide : goal.returns-in-Err-clause-wide
returns-in-Err-clause-wide g c = sum_wide-of g.T.Integer.MAX c.args.self (neg c.args.other) (λ h. c.in-Err.ensures.err
    (subst (λ (y : Fraction). SumFits g.T.Integer.MAX c.args.self y) (sym c.negated.ensures) h))
