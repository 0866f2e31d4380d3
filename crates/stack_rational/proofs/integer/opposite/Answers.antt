use Rattle.std.proofs.Common.{ap, arith, nat_abs}
use Rattle.stack_rational.proofs.Steps.{abs_neg}
use Rattle.stack_rational.proofs.integer.opposite.Goals as goal

pub neg-requires : goal.neg-requires
neg-requires g c = g.met.T.Signed.can_neg_law c.args.x
    (λ e. g.met.T.Integer.laws.keeps _ (omega (arith, abs_neg (g.T.Number.value c.args.x), c.requires)))

pub returns-clause-value : goal.returns-clause-value
returns-clause-value g c = g.met.T.Signed.neg_law c.args.x c.neg.result c.neg.ensures g.met.T.Integral.exact_law
    (g.met.T.Integer.laws.keeps _ (omega (arith, abs_neg (g.T.Number.value c.args.x), c.requires)))

pub returns-clause-size : goal.returns-clause-size
returns-clause-size g c = omega
    (arith, ap nat_abs (returns-clause-value g c), abs_neg (g.T.Number.value c.args.x), c.requires)
