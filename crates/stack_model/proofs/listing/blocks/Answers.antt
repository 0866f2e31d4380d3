use Rattle.stack_model.specs.Raw.{raw_block}
use Rattle.stack_model.specs.Relisted.{body_listed}
use Rattle.stack_model.proofs.Filled.{more, all}
use Rattle.stack_model.proofs.listing.blocks.Goals as goal

pub loop-i-preserved : goal.loop-i-preserved
loop-i-preserved c =
    more raw_block (body_listed c.args.model.now.materials) _ _ c.args.model.now.bodies c.loop-i.i _ _
    c.in_ok-push.ensures.items c.in_ok-block.ensures
    c.bodies-i-end.ensures.value c.loop-i-test.true c.loop-i.invariant

pub returns : goal.returns
returns c =
    all raw_block (body_listed c.args.model.now.materials) c.loop-i.list.items c.args.model.now.bodies
    c.loop-i.i c.bodies-i-end.ensures.value c.loop-i-test.false c.loop-i.invariant
