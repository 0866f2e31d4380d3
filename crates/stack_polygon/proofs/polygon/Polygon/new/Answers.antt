use Rattle.std.proofs.Common.{refl, sym, subst, ◌≤◌, arith}
use lib.ListN.{length}
use Rattle.stack_polygon.specs.Corners.{IsStrictlyConvex}
use Rattle.stack_polygon.specs.Limits.{AreInRange}
use Rattle.stack_polygon.specs.Admission.{IsFirstFar, IsFirstUnclear}
use Rattle.stack_polygon.proofs.Admitted.{admitted, refused, range-held, count-kept, count-read, kept-polygon}
use Rattle.stack_polygon.proofs.Admitted.{admitted-straight, admitted-turned, no-turn}
use Rattle.stack_polygon.proofs.polygon.Polygon.new.Goals as goal
use Rattle.stack_polygon.proofs.polygon.Polygon.new.Goals.{then-len-lt3-via-then-len-lt3}
use Rattle.stack_polygon.proofs.polygon.Polygon.new.Goals.{then-len-lt3-via-else-len-lt3+then-len-gt32}

pub returns-then-len-lt3-clause-meaning : goal.returns-then-len-lt3-clause-meaning
returns-then-len-lt3-clause-meaning c h = elim c.then-len-lt3.branch [
  | then-len-lt3-via-then-len-lt3 w ↦ omega (arith, h.least, c.len.ensures, c.args.corners.ok.0, w.if-len-lt3.true)
  | then-len-lt3-via-else-len-lt3+then-len-gt32 w ↦ omega (
    arith,
    h.most,
    w.len-else-len-lt3.ensures,
    c.args.corners.ok.0,
    w.if-len-gt32.true,
  )
]

pub returns-then-len-lt3-clause-value : goal.returns-then-len-lt3-clause-value
returns-then-len-lt3-clause-value c = refused c.args.corners.items _ (returns-then-len-lt3-clause-meaning c)

pub returns-in-Some-clause-meaning : goal.returns-in-Some-clause-meaning
returns-in-Some-clause-meaning c = (
  count-read _ _ _ _ c.len.ensures c.if-len-lt3.false c.len-else-len-lt3.ensures
      c.if-len-gt32.false c.args.corners.ok.0,
  subst (λ ps. IsFirstFar ps c.in-Some.corner) c.deref.ensures.value c.in-Some.ensures,
)

pub returns-in-Some-clause-value : goal.returns-in-Some-clause-value
returns-in-Some-clause-value c = refused c.args.corners.items _ (returns-in-Some-clause-meaning c)

pub first_unclear-requires-clause-most : goal.first_unclear-requires-clause-most
first_unclear-requires-clause-most c = subst (λ ps. length ps ≤ 32) (sym c.deref-2.ensures.value)
    (count-read _ _ _ _ c.len.ensures c.if-len-lt3.false c.len-else-len-lt3.ensures
    c.if-len-gt32.false c.args.corners.ok.0).most

pub first_unclear-requires-clause-range : goal.first_unclear-requires-clause-range
first_unclear-requires-clause-range c = subst AreInRange (sym c.deref-2.ensures.value)
    (subst AreInRange c.deref.ensures.value c.in_default.ensures)

pub invariant_of-result : goal.invariant_of-result
invariant_of-result c = kept-polygon _ _ _
    (count-read _ _ _ _ c.len.ensures c.if-len-lt3.false c.len-else-len-lt3.ensures
    c.if-len-gt32.false c.args.corners.ok.0)
    c.deref.ensures.value c.in_default.ensures c.deref-2.ensures.value c.in-None.ensures

pub returns-in-None-clause-polygon : goal.returns-in-None-clause-polygon
returns-in-None-clause-polygon c = invariant_of-result c

pub returns-in-None-clause-meaning : goal.returns-in-None-clause-meaning
returns-in-None-clause-meaning c = admitted-straight c.args.corners.items (invariant_of-result c)

pub returns-in-None-clause-value : goal.returns-in-None-clause-value
returns-in-None-clause-value c = admitted c.args.corners.items _ (returns-in-None-clause-meaning c)

pub first_unclear-requires-in-Some-first_unclear-clause-most :
    goal.first_unclear-requires-in-Some-first_unclear-clause-most
first_unclear-requires-in-Some-first_unclear-clause-most c =
    subst (λ ps. length ps ≤ 32) (sym c.deref-in-Some-first_unclear.ensures.value) (count-kept _ _ c.reverse.ensures
    (count-read _ _ _ _ c.len.ensures c.if-len-lt3.false c.len-else-len-lt3.ensures
    c.if-len-gt32.false c.args.corners.ok.0)).most

pub first_unclear-requires-in-Some-first_unclear-clause-range :
    goal.first_unclear-requires-in-Some-first_unclear-clause-range
first_unclear-requires-in-Some-first_unclear-clause-range c =
    range-held _ _ _ _ c.deref.ensures.value c.deref-in-Some-first_unclear.ensures.value c.reverse.ensures
    c.in_default.ensures

pub invariant_of-result-in-None-first_unclear : goal.invariant_of-result-in-None-first_unclear
invariant_of-result-in-None-first_unclear c = kept-polygon _ _ _ (count-kept _ _ c.reverse.ensures
    (count-read _ _ _ _ c.len.ensures c.if-len-lt3.false c.len-else-len-lt3.ensures
    c.if-len-gt32.false c.args.corners.ok.0)) refl
    (range-held _ _ _ _ c.deref.ensures.value refl c.reverse.ensures c.in_default.ensures)
    c.deref-in-Some-first_unclear.ensures.value c.in-None-first_unclear.ensures

pub returns-in-None-first_unclear-clause-polygon : goal.returns-in-None-first_unclear-clause-polygon
returns-in-None-first_unclear-clause-polygon c = invariant_of-result-in-None-first_unclear c

pub returns-in-None-first_unclear-clause-meaning : goal.returns-in-None-first_unclear-clause-meaning
returns-in-None-first_unclear-clause-meaning c = admitted-turned _ _ _ _
    (count-read _ _ _ _ c.len.ensures c.if-len-lt3.false c.len-else-len-lt3.ensures
    c.if-len-gt32.false c.args.corners.ok.0)
    (subst AreInRange c.deref.ensures.value c.in_default.ensures) c.deref-2.ensures.value
    c.in-Some-first_unclear.ensures c.reverse.ensures
    (subst IsStrictlyConvex c.deref-in-Some-first_unclear.ensures.value c.in-None-first_unclear.ensures)

pub returns-in-None-first_unclear-clause-value : goal.returns-in-None-first_unclear-clause-value
returns-in-None-first_unclear-clause-value c = admitted c.args.corners.items _
    (returns-in-None-first_unclear-clause-meaning c)

pub returns-in-Some-first_unclear-2-clause-meaning : goal.returns-in-Some-first_unclear-2-clause-meaning
returns-in-Some-first_unclear-2-clause-meaning c = (
  count-read _ _ _ _ c.len.ensures c.if-len-lt3.false c.len-else-len-lt3.ensures
      c.if-len-gt32.false c.args.corners.ok.0,
  subst AreInRange c.deref.ensures.value c.in_default.ensures,
  subst (λ ps. IsFirstUnclear ps c.in-Some-first_unclear.edge) c.deref-2.ensures.value
      c.in-Some-first_unclear.ensures,
  no-turn _ _ _ _ c.deref-in-Some-first_unclear.ensures.value c.reverse.ensures
      c.in-Some-first_unclear-2.ensures,
)

pub returns-in-Some-first_unclear-2-clause-value : goal.returns-in-Some-first_unclear-2-clause-value
returns-in-Some-first_unclear-2-clause-value c = refused c.args.corners.items _
    (returns-in-Some-first_unclear-2-clause-meaning c)
