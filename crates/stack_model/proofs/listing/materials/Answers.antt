use Rattle.stack_model.specs.Raw.{raw_material}
use Rattle.stack_model.specs.Relisted.{material_listed}
use Rattle.stack_model.proofs.Filled.{more, all}
use Rattle.stack_model.proofs.listing.materials.Goals as goal

pub loop-i-preserved : goal.loop-i-preserved
loop-i-preserved c =
    more raw_material material_listed _ _ c.args.model.now.materials c.loop-i.i _ _
    c.in_ok-push.ensures.items c.in_ok-material.ensures
    c.materials-i-end.ensures.value c.loop-i-test.true c.loop-i.invariant

pub returns : goal.returns
returns c =
    all raw_material material_listed c.loop-i.list.items c.args.model.now.materials c.loop-i.i
    c.materials-i-end.ensures.value c.loop-i-test.false c.loop-i.invariant
