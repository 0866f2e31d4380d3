-- The scene of a survey: its bodies with their loads, and its bearings. Used to say what functions of a survey
-- give, and which certificates are true of it.
use Rattle.std.specs.Prelude.{ℕ, nat_eq, ℤ, pos, Bool, not, ◌&&◌, length, get_or, if◌then◌else◌}
use Rattle.stack_polygon.specs.declared.point.Point.{Point}
use Rattle.stack_polygon.specs.Corners.{origin, corner_of}
use Rattle.stack_model.specs.declared.types.Load.{Load}
use Rattle.stack_model.specs.Structure as model
use Rattle.stack_contact.specs.declared.types.Bearing.{Bearing}
use Rattle.stack_contact.specs.Surveyed.{Surveyed}
use Rattle.stack_statics.specs.declared.wrench.Wrench.{Wrench}
use Rattle.stack_equilibrium.specs.declared.types.Question.{Question}
use Rattle.stack_equilibrium.specs.declared.types.Question.TheVariants.{Dead, Live}
use Rattle.stack_statics.specs.Scene as scene
use Rattle.stack_statics.specs.Sway.{sway_load}
use Rattle.stack_statics.specs.Loads.{no_load, wrench_sum, total_of, weight_of, load_wrench}

-- the first stored corner of body i
abbrev pub first_corner_of : model.Structure → ℕ → Point
first_corner_of s i = corner_of (model.body_of s i).corners 0

-- the weight of a unit of area of body i
abbrev pub unit_weight_of : model.Structure → ℕ → ℤ
unit_weight_of s i = (model.material_of s (model.body_of s i).material).weight

-- the whole weight of body i about its first corner, in sixths of a unit of force
abbrev pub weight_at : model.Structure → ℕ → Wrench
weight_at s i = weight_of (unit_weight_of s i) (model.body_of s i).corners

-- the load of the sway on body i, about its first corner, in sixths of a unit of force
abbrev pub sway_load_at : model.Structure → ℕ → Wrench
sway_load_at s i = sway_load s.sway (unit_weight_of s i) (model.body_of s i).corners

-- a listed load is one of those that are asked about
abbrev pub is_asked : Question → Load → Bool
is_asked Dead l = not l.live
is_asked Live l = l.live

-- six times the wrench of a load about o, where it is asked about and acts on body i; else nothing
abbrev pub acting : Question → ℕ → Point → Load → Wrench
acting q i o l = if nat_eq l.body i && is_asked q l then load_wrench o l.at l.fx l.fy else no_load

-- the listed loads on body i
abbrev pub listed_on : Question → model.Structure → ℕ → Wrench
listed_on q s i = total_of (length s.loads) (λ n. acting q i (first_corner_of s i) (model.load_of s n))

-- all loads on body i: its weight is a dead one, and the load of the sway a live one
abbrev pub loads_on : Question → model.Structure → ℕ → Wrench
loads_on Dead s i = wrench_sum (weight_at s i) (listed_on Dead s i)
loads_on Live s i = wrench_sum (sway_load_at s i) (listed_on Live s i)

-- a body is free or fixed, and its moments are taken about its first stored corner
abbrev pub scene_body_of : model.Structure → ℕ → scene.SceneBody
scene_body_of s i = record {
  free = not (model.body_of s i).fixed;
  ox = (first_corner_of s i).x;
  oy = (first_corner_of s i).y;
  dead = loads_on Dead s i;
  live = loads_on Live s i;
}

-- a bearing has its point, its tangent and the coefficient of its cone
abbrev pub scene_bearing_of : Bearing → scene.SceneBearing
scene_bearing_of z = record {
  first = z.first;
  second = z.second;
  px = z.at.x;
  py = z.at.y;
  tx = z.frame.tx;
  ty = z.frame.ty;
  p = z.cone.p;
  q = z.cone.q;
}

-- a stand-in past the end of a list of bearings
abbrev pub no_bearing : Bearing
no_bearing = record {
  first = 0;
  second = 0;
  at = origin;
  frame = record { tx = pos 0; ty = pos 0 };
  cone = record { p = pos 0; q = pos 0 };
}

-- bearing k of a survey; past the end stands the stand-in
abbrev pub bearing_of : Surveyed → ℕ → Bearing
bearing_of s k = get_or s.bearings k no_bearing

-- bodies and bearings keep their numbers
abbrev pub scene_of : Surveyed → scene.Scene
scene_of s = record {
  bodies = length s.structure.bodies;
  body = λ i. scene_body_of s.structure i;
  bearings = length s.bearings;
  bearing = λ k. scene_bearing_of (bearing_of s k);
}
