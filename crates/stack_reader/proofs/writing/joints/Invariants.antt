use Rattle.std.proofs.Common.{◌≡◌, map, take}
use Rattle.toml.specs.Data.{table}
use Rattle.toml.specs.View.{view}
use Rattle.stack_model.specs.Relisted.{joint_listed}
use Rattle.stack_reader.specs.Writing.{joint_data}
use Rattle.stack_reader.proofs.writing.joints.Given as goal

abbrev pub invariant-loop-i : goal.invariant-loop-i
invariant-loop-i l = map view l.list.items ≡ map (λ x. table (joint_data (joint_listed l.model.materials x)))
    (take l.i l.model.joints)
