use Rattle.std.proofs.Common.{◌∙◌}
use Rattle.stack_rational.proofs.AtBroad.{recast}
use Rattle.stack_rational.proofs.Crosswise.{stored-num, stored-den, stored-fits}
use Rattle.stack_rational.proofs.frac.Frac.parts.Goals as goal

pub returns-clause-num : goal.returns-clause-num
returns-clause-num g c = recast g.T.Integer.MAX c.as_broad.result (g.T.Number.value c.self.inside.num)
    c.as_broad.ensures c.self.invariant.stored.num g.met.T.Integer.laws.greatest.1
    ∙ stored-num _ _ _ _ c.self.invariant.stored c.self.view_is

pub returns-clause-den : goal.returns-clause-den
returns-clause-den g c = recast g.T.Integer.MAX c.as_broad-2.result (g.T.Number.value c.self.inside.den)
    c.as_broad-2.ensures c.self.invariant.stored.den g.met.T.Integer.laws.greatest.1
    ∙ stored-den _ _ _ _ c.self.invariant.stored c.self.view_is

pub returns-clause-fits : goal.returns-clause-fits
returns-clause-fits g c = stored-fits _ _ _ _ c.self.invariant.stored c.self.view_is
