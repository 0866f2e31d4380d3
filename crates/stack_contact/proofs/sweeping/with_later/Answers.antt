use Rattle.std.proofs.Common.{◌≡◌, suc, ◌+◌, subst, arith}
use Rattle.stack_contact.specs.NearPairs.{AreSwept}
use Rattle.stack_model.specs.ModelView.{model_view}
use Rattle.stack_contact.proofs.SweepSteps.{next-swept, row-swept, row-stopped}
use Rattle.stack_contact.proofs.sweeping.with_later.Goals as goal

pub returns-then-begins_beyond : goal.returns-then-begins_beyond
returns-then-begins_beyond c = row-stopped (model_view c.args.model.now) c.args.bodies.now c.requires.order
    c.args.k c.loop-m.m c.loop-m-test.true c.polygon.result.now c.polygon.ensures.value
    c.polygon.ensures.polygon c.span-span.result c.span-span.ensures.span
    (c.begins_beyond.ensures.0 c.if-begins_beyond.true) c.loop-m.pairs.items c.loop-m.invariant

pub loop-m-preserved : goal.loop-m-preserved
loop-m-preserved c = next-swept (model_view c.args.model.now) c.args.bodies.now c.args.k c.loop-m.m
    c.loop-m.pairs.items c.in_ok-more.more.items c.loop-m.invariant c.in_ok-more.ensures

pub returns : goal.returns
returns c = row-swept (model_view c.args.model.now) c.args.bodies.now c.args.k c.loop-m.m c.loop-m.pairs.items
    c.loop-m-test.false c.loop-m.invariant

pub loop-m-init : goal.loop-m-init
loop-m-init c =
    let next : suc c.args.k ≡ c.args.k + 1 = omega arith in
    subst (λ m. AreSwept (model_view c.args.model.now) c.args.bodies.now c.args.k m c.args.start.items) next
    c.requires.swept
