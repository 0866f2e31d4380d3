use Rattle.std.proofs.Common.{◌≡◌, ap, subst, ◌∙◌, ℤ, pos, to_z-of_z}
use Rattle.stack_rational.proofs.Common.{Within}
use Rattle.stack_rational.proofs.OverOne.{whole-stored, whole-is}
use Rattle.stack_rational.proofs.frac.Frac.from_whole.Goals as goal

is : (g : _) (c : goal.After-one g) → Within g.T.Integer.MAX c.args.n
    × (g.T.Number.value c.in-Some.num ≡ c.args.n)
is g c = subst (λ (z : ℤ). Within g.T.Integer.MAX z × (g.T.Number.value c.in-Some.num ≡ z))
    (to_z-of_z c.ranges.n) (c.in-Some.ensures _ (c.from_i128.ensures.value g.met.T.Integral.exact_law))

one : (g : _) (c : goal.After-one g) → g.T.Number.value c.one.result ≡ pos 1
one g c = ap g.T.Number.value c.one.ensures ∙ g.met.T.One.one_law g.met.T.Integral.exact_law

pub made-requires : goal.made-requires
made-requires g c = whole-stored _ _ _ _ (is g c) (one g c)
    g.met.T.Integer.laws.greatest.0

pub returns-in-Some-clause-ok : goal.returns-in-Some-clause-ok
returns-in-Some-clause-ok g c = c.made.ensures ∙ whole-is _ _ _ (is g c.before).1 (one g c.before)

pub returns-in-Some-clause-fits : goal.returns-in-Some-clause-fits
returns-in-Some-clause-fits g c = (is g c.before).0

pub returns-in-None-clause-err : goal.returns-in-None-clause-err
returns-in-None-clause-err g c = subst (λ (z : ℤ). ¬ (Within g.T.Integer.MAX z)) (to_z-of_z c.ranges.n)
    (c.in-None.ensures _ (c.from_i128.ensures.value g.met.T.Integral.exact_law))
