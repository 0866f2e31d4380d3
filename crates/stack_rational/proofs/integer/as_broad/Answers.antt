use Rattle.stack_rational.proofs.AtBroad.{broad-some, broad-none}
use Rattle.stack_rational.proofs.integer.as_broad.Goals as goal

pub returns-in-Some : goal.returns-in-Some
returns-in-Some g c = let e = g.met.T.Integral.exact_law in
    broad-some (g.T.ToPrimitive.integer_of c.args.x) g.T.Integer.MAX (g.T.Number.value c.args.x) c.in-Some.n
    (g.met.T.ToPrimitive.integer_law c.args.x e) (c.in-Some.ensures.some) c.requires
    g.met.T.Integer.laws.greatest.1

pub returns-in-None : goal.returns-in-None
returns-in-None g c = let e = g.met.T.Integral.exact_law in
    absurd (broad-none (g.T.ToPrimitive.integer_of c.args.x) g.T.Integer.MAX (g.T.Number.value c.args.x)
    (g.met.T.ToPrimitive.integer_law c.args.x e) (c.in-None.ensures.some) c.requires
    g.met.T.Integer.laws.greatest.1)
