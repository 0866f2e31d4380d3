-- A structure listed as a file lists it: materials and bodies by their names.
use Rattle.std.specs.Prelude.{ℤ, Bool, true, false, List, [], ◌∷◌, map, codes, ℕ, Option, Some, None, if◌then◌else◌}
use Rattle.stack_polygon.specs.declared.point.Point.{Point}
use Rattle.stack_model.specs.declared.types.Joint.{Joint}
use Rattle.stack_model.specs.declared.types.Load.{Load}
use Rattle.stack_model.specs.Parts.{MaterialPart, JointPart, BlockPart, LoadPart, PartLists}
use Rattle.stack_model.specs.Structure.{NamedMaterial, NamedBody, Structure, material_at, body_at, is_still}

-- a point as an array of two numbers
abbrev pub coordinates : Point → List ℤ
coordinates c = c.x ∷ c.y ∷ []

-- the word of a load's kind
abbrev pub kind_word : Bool → List ℕ
kind_word true = codes "live"
kind_word false = codes "dead"

-- a material, its friction as an array
abbrev pub material_listed : NamedMaterial → MaterialPart
material_listed m = record { name = m.name; weight = m.weight; friction = m.p ∷ m.q ∷ [] }

-- a joint, with the names of its materials
abbrev pub joint_listed : List NamedMaterial → Joint → JointPart
joint_listed ms j =
    record {
      first = (material_at ms j.first).name;
      second = (material_at ms j.second).name;
      friction = j.p ∷ j.q ∷ [];
    }

-- a body as a block, with the name of its material
abbrev pub body_listed : List NamedMaterial → NamedBody → BlockPart
body_listed ms b =
    record {
      name = b.name;
      material = (material_at ms b.material).name;
      fixed = b.fixed;
      corners = map coordinates b.corners;
    }

-- a load, with the name of its block
abbrev pub load_listed : List NamedBody → Load → LoadPart
load_listed bs l =
    record {
      block = (body_at bs l.body).name;
      kind = kind_word l.live;
      at = coordinates l.at;
      force = l.fx ∷ l.fy ∷ [];
    }

-- a sway; (0, 0) is none
abbrev pub sway_relisted : ℤ × ℤ → Option (List ℤ)
sway_relisted sway = if is_still sway then None else Some (sway.0 ∷ sway.1 ∷ [])

-- the version, the sway and the lists of a structure
abbrev pub relisted : Structure → PartLists
relisted s =
    record {
      version = s.version;
      sway = sway_relisted s.sway;
      materials = map material_listed s.materials;
      joints = map (joint_listed s.materials) s.joints;
      blocks = map (body_listed s.materials) s.bodies;
      loads = map (load_listed s.bodies) s.loads;
    }
