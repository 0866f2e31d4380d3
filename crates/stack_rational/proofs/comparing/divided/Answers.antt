use Rattle.stack_rational.proofs.ByWholeParts.{split}
use Rattle.stack_rational.proofs.comparing.divided.Goals as goal

pub div-requires : goal.div-requires
div-requires g c = g.met.T.Num.can_div_law c.args.a c.args.b
    (λ e. g.met.T.Num.positive_divisor_law _ _ e (g.met.T.Integer.laws.keeps _ c.requires.a.0)
    (g.met.T.Integer.laws.keeps _ c.requires.b.0) c.requires.b.1)

pub rem-requires : goal.rem-requires
rem-requires g c = g.met.T.Num.can_rem_law c.args.a c.args.b
    (λ e. g.met.T.Num.positive_divisor_law _ _ e (g.met.T.Integer.laws.keeps _ c.requires.a.0)
    (g.met.T.Integer.laws.keeps _ c.requires.b.0) c.requires.b.1)

pub returns : goal.returns
returns g c = split (g.T.Number.value c.args.a) (g.T.Number.value c.args.b) (g.T.Number.value c.div.result)
    (g.T.Number.value c.rem.result) c.requires.a.1 c.requires.b.1
    (g.met.T.Num.div_law _ _ _ c.div.ensures g.met.T.Integral.exact_law)
    (g.met.T.Num.rem_law _ _ _ c.rem.ensures g.met.T.Integral.exact_law)
