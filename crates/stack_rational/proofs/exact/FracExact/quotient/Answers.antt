use Rattle.std.proofs.Common.{ap, not}
use Rattle.stack_rational.proofs.Common.{inv, mul}
use Rattle.stack_rational.proofs.Fitting.{fits-of, wide-of}
use Rattle.stack_rational.proofs.exact.FracExact.quotient.Goals as goal

pub returns-in-Ok-clause-fits : goal.returns-in-Ok-clause-fits
returns-in-Ok-clause-fits g c = ap not
    (fits-of g.T.Integer.MAX (mul (inv c.args.other) c.args.self) c.in-Ok.ensures.fits)

pub returns-in-Err-clause-wide : goal.returns-in-Err-clause-wide
returns-in-Err-clause-wide g c = wide-of g.T.Integer.MAX (mul (inv c.args.other) c.args.self) c.in-Err.ensures.err
