-- The structure of what a file lists, beside the lists as they are written, without following a run.
use Rattle.std.specs.Prelude.{◌≡◌, ℕ, ◌<◌, ℤ, pos, List, [], ◌∷◌, map, length, Option, Some, None, Ok}
use Rattle.stack_polygon.specs.declared.point.Point.{Point}
use Rattle.stack_model.specs.Structure.{NamedMaterial, NamedBody, Structure, material_at, body_of}
use Rattle.stack_model.specs.Parts.{BlockPart, PartLists}
use Rattle.stack_model.specs.Limits.{corner_list_of}
use Rattle.stack_model.specs.Content.{content_of}
use Rattle.stack_model.specs.Relisted.{material_listed, joint_listed, load_listed}
use Rattle.stack_faults.specs.Outline.{IsOutlineOf}
use Rattle.stack_faults.specs.ContentFaults.{block_written}

-- a body is the block as it is written, but that it has the outline of the block's corners, and the number of the
-- material of the name
pub record IsBodyOf (ms : List NamedMaterial) (b : BlockPart) (c : NamedBody) : Type 0 where
  pub name : c.name ≡ b.name
  pub material : c.material < length ms
  pub material_name : (material_at ms c.material).name ≡ b.material
  pub fixed : c.fixed ≡ b.fixed
  pub points : List Point
  pub written : corner_list_of b.corners ≡ Some points
  pub outline : IsOutlineOf points c.corners

-- a sway is the two numbers that are written, (0, 0) where none are
abbrev pub IsSwayOf : Option (List ℤ) → ℤ × ℤ → Type 0
IsSwayOf None sway = sway ≡ (pos 0, pos 0)
IsSwayOf (Some zs) sway = sway.0 ∷ sway.1 ∷ [] ≡ zs

-- the version and the sway are those that are written; the materials, the joints and the loads, listed as a file lists
-- them, are those that are written; each block has its body
pub record IsStructureOf (parts : PartLists) (s : Structure) : Type 0 where
  pub version : s.version ≡ parts.version
  pub sway : IsSwayOf parts.sway s.sway
  pub materials : map material_listed s.materials ≡ parts.materials
  pub joints : map (joint_listed s.materials) s.joints ≡ parts.joints
  pub count : length s.bodies ≡ length parts.blocks
  pub bodies : (i : ℕ) → i < length parts.blocks → IsBodyOf s.materials (block_written parts i) (body_of s i)
  pub loads : map (load_listed s.bodies) s.loads ≡ parts.loads

-- a structure that is made of what a file lists is that of the lists as they are written
abbrev pub StructureAsListed : Type 0
StructureAsListed = (parts : PartLists) (s : Structure) → content_of parts ≡ Ok s → IsStructureOf parts s
