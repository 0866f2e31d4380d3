use Rattle.stack_rational.specs.Stored.{is_held}
use Rattle.stack_rational.proofs.frac.made.Goals as goal

pub invariant_of-result : goal.invariant_of-result
invariant_of-result g c = is_held _ _ _ _ _ g.met.T.Integer.laws.back c.requires
