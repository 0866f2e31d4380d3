use Rattle.std.proofs.Common.{◌∙◌}
use Rattle.stack_rational.proofs.frac.FracClone.clone.Goals as goal

pub made-requires : goal.made-requires
made-requires g c = c.self.invariant.stored

pub returns : goal.returns
returns g c = record { cases = c.made.ensures ∙ c.self.view_is }
