use Rattle.std.proofs.Common.{sym, subst₂}
use Rattle.stack_model.specs.ModelView.{model_view}
use Rattle.stack_contact.proofs.ListedPairs.{AreFoundTo, start-to, is-pair, found-at, next-to, end-to}
use Rattle.stack_contact.proofs.lists.found_in.Goals as goal

pub loop-n-init : goal.loop-n-init
loop-n-init c = subst₂ (AreFoundTo (model_view c.args.model.now) c.args.pairs.now 0)
    (sym c.new.ensures.items) (sym c.new-2.ensures.items)
    (start-to (model_view c.args.model.now) c.args.pairs.now
    (λ i l. (c.sound.ensures.bodies i l).polygon) c.requires.near c.requires.ordered)

pub with_pair-requires-clause-pair : goal.with_pair-requires-clause-pair
with_pair-requires-clause-pair c = is-pair (model_view c.args.model.now) c.args.pairs.now
    (λ i l. (c.sound.ensures.bodies i l).polygon) c.requires.near c.requires.ordered c.loop-n.n _ c.loop-n-test.true

pub with_pair-requires-clause-found : goal.with_pair-requires-clause-found
with_pair-requires-clause-found c = found-at (model_view c.args.model.now) c.args.pairs.now c.loop-n.n _
    c.loop-n-test.true c.loop-n.lists.bearings.items c.loop-n.lists.touches.items c.loop-n.invariant

pub loop-n-preserved : goal.loop-n-preserved
loop-n-preserved c = next-to (model_view c.args.model.now) c.args.pairs.now
    (λ i l. (c.sound.ensures.bodies i l).polygon) c.requires.near c.requires.ordered
    c.loop-n.n c.loop-n-test.true c.in_ok-more.more.bearings.items c.in_ok-more.more.touches.items _
    c.in_ok-more.ensures

pub returns : goal.returns
returns c = end-to (model_view c.args.model.now) c.args.pairs.now
    (λ i l. (c.sound.ensures.bodies i l).polygon) c.requires.near c.requires.ordered
    c.loop-n.n c.loop-n-test.false c.loop-n.lists.bearings.items c.loop-n.lists.touches.items
    c.loop-n.invariant
