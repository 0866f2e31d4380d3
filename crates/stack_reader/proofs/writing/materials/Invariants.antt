use Rattle.std.proofs.Common.{◌≡◌, map, take}
use Rattle.toml.specs.Data.{table}
use Rattle.toml.specs.View.{view}
use Rattle.stack_model.specs.Relisted.{material_listed}
use Rattle.stack_reader.specs.Writing.{material_data}
use Rattle.stack_reader.proofs.writing.materials.Given as goal

abbrev pub invariant-loop-i : goal.invariant-loop-i
invariant-loop-i l = map view l.list.items ≡ map (λ x. table (material_data (material_listed x)))
    (take l.i l.model.materials)
