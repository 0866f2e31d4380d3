use Rattle.std.proofs.Common.{◌≡◌, map, take}
use Rattle.toml.specs.View.{view}
use Rattle.stack_model.specs.Relisted.{coordinates}
use Rattle.stack_reader.specs.Writing.{wholes_data}
use Rattle.stack_reader.proofs.tables.corners.Given as goal

abbrev pub invariant-loop-i : goal.invariant-loop-i
invariant-loop-i l = map view l.list.items ≡ map (λ c. wholes_data (coordinates c)) (take l.i l.outline)
