use Rattle.std.proofs.Common.{subst, sym}
use Rattle.stack_model.specs.Structure.{structure_with}
use Rattle.stack_model.specs.Raw.{raw_parts}
use Rattle.stack_model.specs.Sound.{IsSound}
use Rattle.stack_model.proofs.Sound.{sound}
use Rattle.stack_model.proofs.model.Model.checked.Goals as goal

pub of_checked-requires : goal.of_checked-requires
of_checked-requires c = subst (λ v. IsSound (structure_with v c.in_ok-head.head.sway c.in_ok-materials.materials
    c.in_ok-materials.joints.items c.in_ok-bodies.bodies c.in_ok-loads.loads.items))
    (sym c.in_ok-head.ensures.version)
    (sound (raw_parts c.args.parts.now) c.in_ok-head.head.sway c.in_ok-materials.materials
    c.in_ok-materials.joints.items c.in_ok-bodies.bodies c.in_ok-loads.loads.items c.requires
    c.in_ok-head.ensures.sway c.in_ok-materials.ensures c.in_ok-bodies.ensures c.in_ok-loads.ensures)
