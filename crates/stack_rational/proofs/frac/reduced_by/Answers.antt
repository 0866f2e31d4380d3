use Rattle.std.proofs.Common.{◌∙◌}
use Rattle.stack_rational.proofs.Common.{IsShared}
use Rattle.stack_rational.proofs.Crosswise.{positive-divisor}
use Rattle.stack_rational.proofs.OverCommon.{lowest, shared_by}
use Rattle.stack_rational.proofs.frac.reduced_by.Goals as goal

pub part-requires-clause-positive : goal.part-requires-clause-positive
part-requires-clause-positive g c = positive-divisor
    (g.T.Number.value c.args.num) _ _ c.divisor-h.ensures.positive c.requires.by.1 c.divisor-h.ensures.gcd

pub part-requires-2-clause-positive : goal.part-requires-2-clause-positive
part-requires-2-clause-positive g c = positive-divisor
    (g.T.Number.value c.args.num) _ _ c.divisor-h.ensures.positive c.requires.by.1 c.divisor-h.ensures.gcd

common : (g : _) (c : goal.After-part-2 g) →
    IsShared g.T.Integer.MAX (g.T.Number.value c.args.num) (g.T.Number.value c.args.den)
    (g.T.Number.value c.divisor-h.result) (g.T.Number.value c.part.result) (g.T.Number.value c.part-2.result)
common g c = shared_by _ (g.T.Number.value c.args.num) (g.T.Number.value c.args.den) (g.T.Number.value c.args.g) _ _ _
    c.requires.inner.1 c.requires.outer c.divisor-h.ensures.gcd
    (positive-divisor (g.T.Number.value c.args.num) _ _ c.divisor-h.ensures.positive c.requires.by.1
    c.divisor-h.ensures.gcd) c.divisor-h.ensures.size
    (c.part.ensures.value, c.part.ensures.size) (c.part-2.ensures.value, c.part-2.ensures.size)

pub made-requires : goal.made-requires
made-requires g c = record {
  lowest = (lowest _ _ _ _ _ _ c.requires.inner.0 (common g c)).lowest;
  num = c.part.ensures.size;
  den = c.part-2.ensures.size;
}

pub returns : goal.returns
returns g c = c.made.ensures ∙ (lowest _ _ _ _ _ _ c.requires.inner.0 (common g c.before)).value
