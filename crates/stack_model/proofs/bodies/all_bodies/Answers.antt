use Rattle.stack_model.specs.Raw.{raw_block}
use Rattle.stack_model.specs.Content.{add_block}
use Rattle.stack_model.proofs.Followed.{follows, stops, ended}
use Rattle.stack_model.proofs.bodies.all_bodies.Goals as goal

pub returns-in_err-add : goal.returns-in_err-add
returns-in_err-add c = stops (add_block c.args.materials.now) raw_block c.args.raws.now c.loop-index.index _ _ _
    c.index-raws-index.result _ _ c.from_residual.ensures.1
    c.loop-index-test.true c.index-raws-index.is c.in_err-add.ensures.value c.loop-index.invariant.1

pub loop-index-preserved : goal.loop-index-preserved
loop-index-preserved c = (
  c.in_ok-add.ensures.names,
  follows (add_block c.args.materials.now) raw_block c.args.raws.now
      c.loop-index.index c.index-raws-index.result _ _ _
      c.loop-index-test.true c.index-raws-index.is c.in_ok-add.ensures.value c.loop-index.invariant.1,
)

pub returns : goal.returns
returns c = ended (add_block c.args.materials.now) raw_block c.args.raws.now c.loop-index.index _ _
    c.loop-index-test.false c.loop-index.invariant.1
