use Rattle.std.proofs.Common.{refl, sym, ◌∙◌}
use Rattle.stack_rational.proofs.ByWholeParts.{less-parts, rests, ends-equal, ends-greater, ends-less, next-step}
use Rattle.stack_rational.proofs.ByWholeParts.{smaller-step, yes-less, above-by, cmp-less, cmp-greater}
use Rattle.stack_rational.proofs.comparing.order_of_parts.Goals as goal

pub steps-init : goal.steps-init
steps-init g c = (
  record {
    size_a = c.requires.a.0;
    size_b = c.requires.b.0;
    size_c = c.requires.c.0;
    size_d = c.requires.d.0;
    low_a = c.requires.a.1;
    low_b = c.requires.b.1;
    low_c = c.requires.c.1;
    low_d = c.requires.d.1;
  },
  refl,
)

-- one whole part is less
pub returns-then-is_less : goal.returns-then-is_less
returns-then-is_less g c = sym (sym c.steps.invariant.1 ∙ cmp-less _ _ (less-parts _ _ _ _ _ _ _ _
    c.divided-q.ensures c.divided-p.ensures c.steps.invariant.0.low_b c.steps.invariant.0.low_d
    (yes-less _ _ _ c.is_less.ensures c.if-is_less.true)))

pub returns-then-is_less-2 : goal.returns-then-is_less-2
returns-then-is_less-2 g c = sym (sym c.steps.invariant.1 ∙ cmp-greater _ _ (less-parts _ _ _ _ _ _ _ _
    c.divided-p.ensures c.divided-q.ensures c.steps.invariant.0.low_d c.steps.invariant.0.low_b
    (yes-less _ _ _ c.is_less-in-steps.ensures c.if-is_less-2.true)))

-- neither is, and one rest or both are 0
pub returns-then-is_zero-2 : goal.returns-then-is_zero-2
returns-then-is_zero-2 g c = sym
    (rests _ _ _ _ _ _ _ _ _ _ _ c.steps.invariant.1 c.divided-q.ensures c.divided-p.ensures
    c.is_less.ensures c.if-is_less.false c.is_less-in-steps.ensures c.if-is_less-2.false
    ∙ ends-equal _ _ _ _ ((c.is_zero-then-is_zero.ensures.value g.met.T.Integral.exact_law).0 c.if-is_zero-2.true)
    ((c.is_zero.ensures.value g.met.T.Integral.exact_law).0 c.if-is_zero.true))

pub returns-else-is_zero-2 : goal.returns-else-is_zero-2
returns-else-is_zero-2 g c = sym
    (rests _ _ _ _ _ _ _ _ _ _ _ c.steps.invariant.1 c.divided-q.ensures c.divided-p.ensures
    c.is_less.ensures c.if-is_less.false c.is_less-in-steps.ensures c.if-is_less-2.false
    ∙ ends-greater _ _ _ _ c.steps.invariant.0.low_d
    (above-by _ _ c.divided-q.ensures.low
    (c.is_zero-then-is_zero.ensures.value g.met.T.Integral.exact_law) c.if-is_zero-2.false)
    ((c.is_zero.ensures.value g.met.T.Integral.exact_law).0 c.if-is_zero.true))

pub returns-then-is_zero-3 : goal.returns-then-is_zero-3
returns-then-is_zero-3 g c = sym
    (rests _ _ _ _ _ _ _ _ _ _ _ c.steps.invariant.1 c.divided-q.ensures c.divided-p.ensures
    c.is_less.ensures c.if-is_less.false c.is_less-in-steps.ensures c.if-is_less-2.false
    ∙ ends-less _ _ _ _ c.steps.invariant.0.low_b
    ((c.is_zero-in-steps.ensures.value g.met.T.Integral.exact_law).0 c.if-is_zero-3.true)
    (above-by _ _ c.divided-p.ensures.low (c.is_zero.ensures.value g.met.T.Integral.exact_law) c.if-is_zero.false))

-- neither is 0, and they are compared the other way round
pub steps-smaller : goal.steps-smaller
steps-smaller g c = smaller-step _ _ _ _ _ _ _ _ c.divided-q.ensures c.divided-p.ensures

pub steps-preserved : goal.steps-preserved
steps-preserved g c = (
  next-step _ _ _ _ _ _ _ _ _ c.steps.invariant.0 c.divided-q.ensures c.divided-p.ensures
      (above-by _ _ c.divided-q.ensures.low (c.is_zero-in-steps.ensures.value g.met.T.Integral.exact_law)
      c.if-is_zero-3.false)
      (above-by _ _ c.divided-p.ensures.low (c.is_zero.ensures.value g.met.T.Integral.exact_law) c.if-is_zero.false),
  sym (rests _ _ _ _ _ _ _ _ _ _ _ c.steps.invariant.1 c.divided-q.ensures c.divided-p.ensures
      c.is_less.ensures c.if-is_less.false c.is_less-in-steps.ensures c.if-is_less-2.false),
)
