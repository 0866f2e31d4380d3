use Rattle.std.proofs.Common.{◌≡◌, ap, ◌∙◌, arith, pos}
use Rattle.stack_rational.proofs.OverOne.{whole-stored, whole-is}
use Rattle.stack_rational.proofs.frac.Frac.one.Goals as goal

one : (g : _) (c : goal.After-one-2 g) → g.T.Number.value c.one.result ≡ pos 1
one g c = ap g.T.Number.value c.one.ensures ∙ g.met.T.One.one_law g.met.T.Integral.exact_law

two : (g : _) (c : goal.After-one-2 g) → g.T.Number.value c.one-2.result ≡ pos 1
two g c = ap g.T.Number.value c.one-2.ensures ∙ g.met.T.One.one_law g.met.T.Integral.exact_law

pub made-requires : goal.made-requires
made-requires g c = let size = g.met.T.Integer.laws.greatest in
    whole-stored g.T.Integer.MAX _ _ _ (omega (arith, size.0), one g c) (two g c) size.0

pub returns : goal.returns
returns g c = c.made.ensures ∙ whole-is _ _ _ (one g c.before) (two g c.before)
