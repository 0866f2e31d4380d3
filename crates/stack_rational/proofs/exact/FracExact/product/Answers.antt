use Rattle.std.proofs.Common.{ap, not}
use Rattle.stack_rational.proofs.Common.{mul}
use Rattle.stack_rational.proofs.Fitting.{fits-of, wide-of}
use Rattle.stack_rational.proofs.exact.FracExact.product.Goals as goal

pub returns-in-Ok-clause-fits : goal.returns-in-Ok-clause-fits
returns-in-Ok-clause-fits g c = ap not (fits-of g.T.Integer.MAX (mul c.args.self c.args.other) c.in-Ok.ensures.fits)

pub returns-in-Err-clause-wide : goal.returns-in-Err-clause-wide
returns-in-Err-clause-wide g c = wide-of g.T.Integer.MAX (mul c.args.self c.args.other) c.in-Err.ensures.err
