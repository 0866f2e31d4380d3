use Rattle.stack_rational.proofs.Crosswise.{positive-divisor}
use Rattle.stack_rational.proofs.frac.shared.Goals as goal

pub part-requires-clause-positive : goal.part-requires-clause-positive
part-requires-clause-positive g c = positive-divisor
    (g.T.Number.value c.args.a) _ _ c.divisor-g.ensures.positive c.requires.d.1 c.divisor-g.ensures.gcd

pub part-requires-2-clause-positive : goal.part-requires-2-clause-positive
part-requires-2-clause-positive g c = positive-divisor
    (g.T.Number.value c.args.a) _ _ c.divisor-g.ensures.positive c.requires.d.1 c.divisor-g.ensures.gcd

pub returns : goal.returns
returns g c = record {
  gcd = c.divisor-g.ensures.gcd;
  positive = positive-divisor
      (g.T.Number.value c.args.a) _ _ c.divisor-g.ensures.positive c.requires.d.1 c.divisor-g.ensures.gcd;
  size = c.divisor-g.ensures.size;
  left = c.part.ensures.value;
  right = c.part-2.ensures.value;
  left_size = c.part.ensures.size;
  right_size = c.part-2.ensures.size;
}
