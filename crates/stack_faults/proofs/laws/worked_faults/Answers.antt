use Rattle.std.proofs.Common.{refl}
use Rattle.stack_reader.specs.Forms.{field}
use Rattle.stack_reader.specs.Shape.{material_part, in_table, each_of, head_of_document, parts_of_document}
use Rattle.stack_faults.proofs.laws.worked_faults.Goals as goal

pub returns : goal.returns
unfolding head_of_document parts_of_document each_of in_table material_part field
returns _ = record {
  none = refl;
  materials = refl;
  joints = refl;
  blocks = refl;
  loads = refl;
  each = refl;
  shape = refl;
  content = refl;
  numbers = refl;
  room = refl;
  no_room = refl;
}
