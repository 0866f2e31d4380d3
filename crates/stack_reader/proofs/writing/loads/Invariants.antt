use Rattle.std.proofs.Common.{◌≡◌, map, take}
use Rattle.toml.specs.Data.{table}
use Rattle.toml.specs.View.{view}
use Rattle.stack_model.specs.Relisted.{load_listed}
use Rattle.stack_reader.specs.Writing.{load_data}
use Rattle.stack_reader.proofs.writing.loads.Given as goal

abbrev pub invariant-loop-i : goal.invariant-loop-i
invariant-loop-i l = map view l.list.items ≡ map (λ x. table (load_data (load_listed l.model.bodies x)))
    (take l.i l.model.loads)
