use Rattle.std.proofs.Common.{◌∙◌}
use Rattle.stack_rational.proofs.Inverses.{negated-is}
use Rattle.stack_rational.proofs.frac.Frac.negated.Goals as goal

pub returns : goal.returns
returns g c = c.made.ensures ∙ negated-is _ _ _ _ _ c.self.invariant.stored c.self.view_is c.opposite.ensures.value
