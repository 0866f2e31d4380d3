use Rattle.stack_model.specs.Raw.{raw_load}
use Rattle.stack_model.specs.Relisted.{load_listed}
use Rattle.stack_model.proofs.Filled.{more, all}
use Rattle.stack_model.proofs.listing.loads.Goals as goal

pub loop-i-preserved : goal.loop-i-preserved
loop-i-preserved c =
    more raw_load (load_listed c.args.model.now.bodies) _ _ c.args.model.now.loads c.loop-i.i _ _
    c.in_ok-push.ensures.items c.in_ok-load.ensures
    c.loads-i-end.ensures.value c.loop-i-test.true c.loop-i.invariant

pub returns : goal.returns
returns c =
    all raw_load (load_listed c.args.model.now.bodies) c.loop-i.list.items c.args.model.now.loads
    c.loop-i.i c.loads-i-end.ensures.value c.loop-i-test.false c.loop-i.invariant
