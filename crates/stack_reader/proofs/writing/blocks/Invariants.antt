use Rattle.std.proofs.Common.{◌≡◌, map, take}
use Rattle.toml.specs.Data.{table}
use Rattle.toml.specs.View.{view}
use Rattle.stack_model.specs.Relisted.{body_listed}
use Rattle.stack_reader.specs.Writing.{block_data}
use Rattle.stack_reader.proofs.writing.blocks.Given as goal

abbrev pub invariant-loop-i : goal.invariant-loop-i
invariant-loop-i l = map view l.list.items ≡ map (λ x. table (block_data (body_listed l.model.materials x)))
    (take l.i l.model.bodies)
