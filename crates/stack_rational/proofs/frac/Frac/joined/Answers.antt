use Rattle.std.proofs.Common.{subst, ℤ}
use Rattle.stack_rational.proofs.Common.{Within}
use Rattle.num_traits.specs.Laws.{Checks}
use Rattle.stack_rational.proofs.Crosswise.{positive-divisor, stored-den}
use Rattle.stack_rational.proofs.Multiples.{joined-is}
use Rattle.stack_rational.proofs.frac.Frac.joined.Goals as goal

pub part-requires-clause-positive : goal.part-requires-clause-positive
part-requires-clause-positive g c = positive-divisor (g.T.Number.value c.args.scale)
    _ _ c.divisor-g.ensures.positive c.self.invariant.stored.lowest.positive c.divisor-g.ensures.gcd

pub returns : goal.returns
returns g c = subst (λ (z : ℤ). Checks g.T.Number.value (Within g.T.Integer.MAX) z c.times.result)
    (joined-is (g.T.Number.value c.args.scale) _ _ _ c.args.self.now.den
    c.requires.1 c.self.invariant.stored.lowest.positive c.divisor-g.ensures.positive c.divisor-g.ensures.gcd
    c.part.ensures.value
    (stored-den _ _ _ _ c.self.invariant.stored c.self.view_is))
    c.times.ensures
