use Rattle.std.proofs.Common.{sym, ◌∙◌, pos}
use Rattle.stack_rational.proofs.ByWholeParts.{stored-order, opposite-order, sign-less, opposite-low, yes-less, no-less}
use Rattle.stack_rational.proofs.ByWholeParts.{cmp-less, cmp-greater}
use Rattle.stack_rational.proofs.frac.Frac.order.Goals as goal

pub order_of_parts-requires-clause-a : goal.order_of_parts-requires-clause-a
order_of_parts-requires-clause-a g c = (
  c.opposite.ensures.size,
  opposite-low (g.T.Number.value c.other.inside.num) (g.T.Number.value c.opposite.result)
      c.opposite.ensures.value (yes-less (g.T.Number.value c.other.inside.num) (pos 0)
      _ c.is_minus-then-is_minus.ensures c.if-is_minus-2.true),
)

pub order_of_parts-requires-clause-c : goal.order_of_parts-requires-clause-c
order_of_parts-requires-clause-c g c = (
  c.opposite-then-is_minus-2.ensures.size,
  opposite-low (g.T.Number.value c.self.inside.num) (g.T.Number.value c.opposite-then-is_minus-2.result)
      c.opposite-then-is_minus-2.ensures.value
      (yes-less (g.T.Number.value c.self.inside.num) (pos 0) _ c.is_minus.ensures c.if-is_minus.true),
)

pub returns-then-is_minus-2 : goal.returns-then-is_minus-2
returns-then-is_minus-2 g c = c.order_of_parts.ensures
    ∙ opposite-order (g.T.Number.value c.self.inside.num) (g.T.Number.value c.self.inside.den)
    (g.T.Number.value c.other.inside.num) (g.T.Number.value c.other.inside.den)
    (g.T.Number.value c.opposite.result) (g.T.Number.value c.opposite-then-is_minus-2.result)
    c.opposite.ensures.value c.opposite-then-is_minus-2.ensures.value
    ∙ stored-order c.self.invariant.stored c.other.invariant.stored c.self.view_is c.other.view_is

pub returns-else-is_minus-2 : goal.returns-else-is_minus-2
returns-else-is_minus-2 g c = sym
    (cmp-less _ _ (sign-less (g.T.Number.value c.self.inside.num) (g.T.Number.value c.self.inside.den)
    (g.T.Number.value c.other.inside.num) (g.T.Number.value c.other.inside.den)
    c.self.invariant.stored.lowest.positive c.other.invariant.stored.lowest.positive
    (yes-less (g.T.Number.value c.self.inside.num) (pos 0)
    _ c.is_minus.ensures c.if-is_minus.true)
    (no-less (g.T.Number.value c.other.inside.num) (pos 0)
    _ c.is_minus-then-is_minus.ensures c.if-is_minus-2.false)))
    ∙ stored-order c.self.invariant.stored c.other.invariant.stored c.self.view_is c.other.view_is

pub returns-then-is_minus-3 : goal.returns-then-is_minus-3
returns-then-is_minus-3 g c = sym
    (cmp-greater _ _ (sign-less (g.T.Number.value c.other.inside.num) (g.T.Number.value c.other.inside.den)
    (g.T.Number.value c.self.inside.num) (g.T.Number.value c.self.inside.den)
    c.other.invariant.stored.lowest.positive c.self.invariant.stored.lowest.positive
    (yes-less (g.T.Number.value c.other.inside.num) (pos 0)
    _ c.is_minus-else-is_minus.ensures c.if-is_minus-3.true)
    (no-less (g.T.Number.value c.self.inside.num) (pos 0)
    _ c.is_minus.ensures c.if-is_minus.false)))
    ∙ stored-order c.self.invariant.stored c.other.invariant.stored c.self.view_is c.other.view_is

pub returns-else-is_minus-3 : goal.returns-else-is_minus-3
returns-else-is_minus-3 g c = c.order_of_parts-else-is_minus-3.ensures
    ∙ stored-order c.self.invariant.stored c.other.invariant.stored c.self.view_is c.other.view_is

-- the parts that are compared
pub order_of_parts-requires-clause-b : goal.order_of_parts-requires-clause-b
order_of_parts-requires-clause-b g c = (c.other.invariant.stored.den, c.other.invariant.stored.lowest.positive)

pub order_of_parts-requires-clause-d : goal.order_of_parts-requires-clause-d
order_of_parts-requires-clause-d g c = (c.self.invariant.stored.den, c.self.invariant.stored.lowest.positive)

pub order_of_parts-requires-else-is_minus-3-clause-a : goal.order_of_parts-requires-else-is_minus-3-clause-a
order_of_parts-requires-else-is_minus-3-clause-a g c = (
  c.self.invariant.stored.num,
  no-less (g.T.Number.value c.self.inside.num) (pos 0) _ c.is_minus.ensures c.if-is_minus.false,
)

pub order_of_parts-requires-else-is_minus-3-clause-c : goal.order_of_parts-requires-else-is_minus-3-clause-c
order_of_parts-requires-else-is_minus-3-clause-c g c = (
  c.other.invariant.stored.num,
  no-less (g.T.Number.value c.other.inside.num) (pos 0) _ c.is_minus-else-is_minus.ensures c.if-is_minus-3.false,
)
