use Rattle.std.proofs.Common.{◌≡◌, ap, ◌∙◌, arith, pos}
use Rattle.stack_rational.proofs.OverOne.{whole-stored, whole-is}
use Rattle.stack_rational.proofs.frac.Frac.zero.Goals as goal

one : (g : _) (c : goal.After-one g) → g.T.Number.value c.one.result ≡ pos 1
one g c = ap g.T.Number.value c.one.ensures ∙ g.met.T.One.one_law g.met.T.Integral.exact_law

zero : (g : _) (c : goal.After-one g) → g.T.Number.value c.zero.result ≡ pos 0
zero g c = ap g.T.Number.value c.zero.ensures ∙ g.met.T.Zero.zero_law g.met.T.Integral.exact_law

pub made-requires : goal.made-requires
made-requires g c = whole-stored g.T.Integer.MAX _ _ _ (omega arith, zero g c) (one g c)
    g.met.T.Integer.laws.greatest.0

pub returns : goal.returns
returns g c = c.made.ensures ∙ whole-is _ _ _ (zero g c.before) (one g c.before)
