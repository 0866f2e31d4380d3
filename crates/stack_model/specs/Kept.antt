-- How a model is kept, and the structure that it is seen as.
use Rattle.std.specs.Prelude.{map, string_bytes}
use Rattle.stack_model.specs.declared.types.Material.{Material}
use Rattle.stack_model.specs.declared.types.Body.{Body}
use Rattle.stack_model.specs.declared.kept.KeptMaterial.{KeptMaterial}
use Rattle.stack_model.specs.declared.kept.KeptBody.{KeptBody}
use Rattle.stack_model.specs.declared.model.Model.TheInside.{Inside}
use Rattle.stack_model.specs.Structure.{NamedMaterial, NamedBody, Structure}

-- a material with its name
abbrev pub material_view : KeptMaterial → NamedMaterial
material_view m = record {
  name = string_bytes m.name;
  weight = m.material.weight;
  p = m.material.p;
  q = m.material.q;
}

-- a body with its name and its outline
abbrev pub body_view : KeptBody → NamedBody
body_view b = record {
  name = string_bytes b.name;
  material = b.body.material;
  fixed = b.body.fixed;
  corners = b.outline;
}

-- the version, the sway and the lists of a model
abbrev pub inside_view : Inside → Structure
inside_view m = record {
  version = m.head.version;
  sway = m.head.sway;
  materials = map material_view m.materials.items;
  joints = m.joints.items;
  bodies = map body_view m.bodies.items;
  loads = m.loads.items;
}

-- a material without its name
abbrev pub material_alone : NamedMaterial → Material
material_alone m = record { weight = m.weight; p = m.p; q = m.q }

-- a body without its name and its outline
abbrev pub body_alone : NamedBody → Body
body_alone b = record { material = b.material; fixed = b.fixed }
