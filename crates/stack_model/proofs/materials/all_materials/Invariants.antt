use Rattle.std.proofs.Common.{◌≡◌, [], drop, map}
use Rattle.stack_algebra.specs.Steps.{steps}
use Rattle.stack_model.specs.Kept.{material_view}
use Rattle.stack_model.specs.Raw.{raw_material}
use Rattle.stack_model.specs.Content.{add_material, material_names}
use Rattle.stack_model.proofs.materials.all_materials.Given as goal

abbrev pub invariant-loop-index : goal.invariant-loop-index
invariant-loop-index l = (l.names ≡ material_names (map material_view l.kept.items))
    × (steps add_material l.index (map material_view l.kept.items) (drop l.index (map raw_material l.raws))
    ≡ steps add_material 0 [] (map raw_material l.raws))
