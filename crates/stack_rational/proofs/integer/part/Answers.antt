use Rattle.std.proofs.Common.{ap, arith, nat_abs}
use Rattle.stack_rational.proofs.Common.{ints}
use Rattle.stack_rational.proofs.Steps.{div-size}
use Rattle.stack_rational.proofs.integer.part.Goals as goal

-- a quotient by a positive number is within the type
pub div-requires : goal.div-requires
div-requires g c = g.met.T.Num.can_div_law c.args.a c.args.g
    (λ e. (
      (g.T.Number.nonzero_law (g.T.Number.value c.args.g) e
          (g.met.T.Integer.laws.keeps _ c.requires.divisor)).1
          (λ h. omega (arith, ints, c.requires.positive, h)),
      g.met.T.Integer.laws.keeps _ (omega (
        arith,
        div-size (g.T.Number.value c.args.a) (g.T.Number.value c.args.g),
        c.requires.size,
      )),
    ))

-- a quotient is no greater in size than the number
pub returns-else-is_one-clause-size : goal.returns-else-is_one-clause-size
returns-else-is_one-clause-size g c = omega (
  arith,
  ap nat_abs (g.met.T.Num.div_law _ _ _ c.div.ensures g.met.T.Integral.exact_law),
  div-size (g.T.Number.value c.args.a) (g.T.Number.value c.args.g),
  c.requires.size,
)
