use Rattle.std.proofs.Common.{to_z-of_z}
use Rattle.stack_rational.proofs.WideWholes.{whole_fits, whole_too_wide}
use Rattle.stack_rational.proofs.exact.FracExact.from_whole.Goals as goal

pub returns-in-Ok-clause-fits : goal.returns-in-Ok-clause-fits
returns-in-Ok-clause-fits g c = whole_fits g.T.Integer.MAX _ _ (to_z-of_z c.ranges.n) c.in-Ok.ensures.fits

pub returns-in-Err-clause-wide : goal.returns-in-Err-clause-wide
returns-in-Err-clause-wide g c = whole_too_wide g.T.Integer.MAX _ _ (to_z-of_z c.ranges.n) c.in-Err.ensures.err
