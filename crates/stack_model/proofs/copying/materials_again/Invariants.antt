use Rattle.std.proofs.Common.{◌≡◌, map, take}
use Rattle.stack_model.specs.Kept.{material_view}
use Rattle.stack_model.proofs.copying.materials_again.Given as goal

abbrev pub invariant-loop-i : goal.invariant-loop-i
invariant-loop-i l = map material_view l.list.items ≡ map material_view (take l.i l.kept)
