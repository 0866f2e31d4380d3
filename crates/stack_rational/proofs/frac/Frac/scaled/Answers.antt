use Rattle.std.proofs.Common.{subst, ℤ}
use Rattle.stack_rational.proofs.Common.{Within}
use Rattle.num_traits.specs.Laws.{Checks}
use Rattle.stack_rational.proofs.Crosswise.{stored-num, stored-den}
use Rattle.stack_rational.proofs.Multiples.{scaled-is}
use Rattle.stack_rational.proofs.frac.Frac.scaled.Goals as goal

pub returns : goal.returns
returns g c = subst (λ (z : ℤ). Checks g.T.Number.value (Within g.T.Integer.MAX) z c.times.result)
    (scaled-is (g.T.Number.value c.args.scale) _ _ _ c.args.self.now c.requires.1
    (stored-num _ _ _ _ c.self.invariant.stored c.self.view_is)
    (stored-den _ _ _ _ c.self.invariant.stored c.self.view_is) c.part.ensures.value)
    c.times.ensures
