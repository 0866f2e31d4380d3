use Rattle.stack_model.specs.Raw.{raw_joint}
use Rattle.stack_model.specs.Relisted.{joint_listed}
use Rattle.stack_model.proofs.Filled.{more, all}
use Rattle.stack_model.proofs.listing.joints.Goals as goal

pub loop-i-preserved : goal.loop-i-preserved
loop-i-preserved c =
    more raw_joint (joint_listed c.args.model.now.materials) _ _ c.args.model.now.joints c.loop-i.i _ _
    c.in_ok-push.ensures.items c.in_ok-joint.ensures
    c.joints-i-end.ensures.value c.loop-i-test.true c.loop-i.invariant

pub returns : goal.returns
returns c =
    all raw_joint (joint_listed c.args.model.now.materials) c.loop-i.list.items c.args.model.now.joints
    c.loop-i.i c.joints-i-end.ensures.value c.loop-i-test.false c.loop-i.invariant
