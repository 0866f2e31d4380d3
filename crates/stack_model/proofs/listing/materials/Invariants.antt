use Rattle.std.proofs.Common.{◌≡◌, map, take}
use Rattle.stack_model.specs.Raw.{raw_material}
use Rattle.stack_model.specs.Relisted.{material_listed}
use Rattle.stack_model.proofs.listing.materials.Given as goal

abbrev pub invariant-loop-i : goal.invariant-loop-i
invariant-loop-i l = map raw_material l.list.items ≡ map material_listed (take l.i l.model.materials)
