-- The parts of a file as the code holds them.
use Rattle.std.specs.Prelude.{ℤ, List, map, option_map, string_bytes, Vec}
use Rattle.std.specs.declared.alloc.Global.{Global}
use Rattle.stack_model.specs.declared.raw.RawMaterial.{RawMaterial}
use Rattle.stack_model.specs.declared.raw.RawJoint.{RawJoint}
use Rattle.stack_model.specs.declared.raw.RawBlock.{RawBlock}
use Rattle.stack_model.specs.declared.raw.RawLoad.{RawLoad}
use Rattle.stack_model.specs.declared.raw.Parts.{Parts}
use Rattle.stack_model.specs.Parts.{MaterialPart, JointPart, BlockPart, LoadPart, PartLists}

-- an array of numbers
abbrev pub numbers_view : Vec ℤ Global → List ℤ
numbers_view v = v.items

-- an array of such arrays
abbrev pub lists_view : Vec (Vec ℤ Global) Global → List (List ℤ)
lists_view v = map numbers_view v.items

-- a material as the file lists it
abbrev pub raw_material : RawMaterial → MaterialPart
raw_material m = record { name = string_bytes m.name; weight = m.weight; friction = m.friction.items }

-- a joint as the file lists it
abbrev pub raw_joint : RawJoint → JointPart
raw_joint j = record { first = string_bytes j.first; second = string_bytes j.second; friction = j.friction.items }

-- a block as the file lists it
abbrev pub raw_block : RawBlock → BlockPart
raw_block b = record {
  name = string_bytes b.name;
  material = string_bytes b.material;
  fixed = b.fixed;
  corners = lists_view b.corners;
}

-- a load as the file lists it
abbrev pub raw_load : RawLoad → LoadPart
raw_load l = record {
  block = string_bytes l.block;
  kind = string_bytes l.kind;
  at = l.at.items;
  force = l.force.items;
}

-- all that the file lists
abbrev pub raw_parts : Parts → PartLists
raw_parts p = record {
  version = p.version;
  sway = option_map numbers_view p.sway;
  materials = map raw_material p.materials.items;
  joints = map raw_joint p.joints.items;
  blocks = map raw_block p.blocks.items;
  loads = map raw_load p.loads.items;
}
