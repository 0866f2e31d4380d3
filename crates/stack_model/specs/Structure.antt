-- What a model describes: materials, joints, bodies and loads, each a list in the order of the file, and a sway.
-- Used by every crate above.
use Rattle.std.specs.Prelude.{◌≡◌, ◌≢◌, ◌⊎◌, ℕ, ◌<◌, ℤ, pos, negsuc, Bool, true, false, not, ◌&&◌, ◌||◌, nat_eq, List}
use Rattle.std.specs.Prelude.{[], get_or, length, find, Option, Some, None, option_map}
use Rattle.std.specs.List.{list_any}
use Rattle.std.specs.Ordering.{int_eq}
use Rattle.stack_algebra.specs.IntegerOrder.{◌≼◌}
use Rattle.stack_whole.specs.Limits.{greatest_weight}
use Rattle.stack_polygon.specs.declared.point.Point.{Point}
use Rattle.stack_polygon.specs.Corners.{origin}
use Rattle.stack_polygon.specs.Limits.{IsInRange, IsPolygon}
use Rattle.stack_model.specs.declared.types.Joint.{Joint}
use Rattle.stack_model.specs.declared.types.Load.{Load}
use Rattle.stack_model.specs.Limits.{IsName}

-- a material: its unit weight, and its coefficient of friction, p over q
pub record NamedMaterial : Type 0 where
  pub name : List ℕ
  pub weight : ℤ
  pub p : ℤ
  pub q : ℤ

-- a body: the number of its material, whether it is fixed, and its corners, counter-clockwise
pub record NamedBody : Type 0 where
  pub name : List ℕ
  pub material : ℕ
  pub fixed : Bool
  pub corners : List Point

-- the version of its file, the sway, and the lists, whose items are told by their places, from 0
pub record Structure : Type 0 where
  pub version : ℤ
  -- the factor raises a load of the sway times its weight on each free body; (0, 0) is none
  pub sway : ℤ × ℤ
  pub materials : List NamedMaterial
  -- the friction between pairs of materials, where it isn't the lesser of the two
  pub joints : List Joint
  pub bodies : List NamedBody
  pub loads : List Load

-- a structure of this version, with this sway and these lists
abbrev pub structure_with : ℤ → ℤ × ℤ → List NamedMaterial → List Joint → List NamedBody → List Load → Structure
structure_with version sway ms js bs ls = record {
  version = version;
  sway = sway;
  materials = ms;
  joints = js;
  bodies = bs;
  loads = ls;
}

-- a structure of version 1, which has neither joints nor a sway
abbrev pub first_structure : List NamedMaterial → List NamedBody → List Load → Structure
first_structure ms bs ls = structure_with (pos 1) (pos 0, pos 0) ms [] bs ls

-- material i of a list; past the end stands one that means nothing
abbrev pub material_at : List NamedMaterial → ℕ → NamedMaterial
material_at ms i = get_or ms i (record { name = []; weight = pos 0; p = pos 0; q = pos 1 })

-- material i of a structure
abbrev pub material_of : Structure → ℕ → NamedMaterial
material_of s i = material_at s.materials i

-- joint i of a list; past the end stands one that means nothing
abbrev pub joint_at : List Joint → ℕ → Joint
joint_at js i = get_or js i (record { first = 0; second = 0; p = pos 0; q = pos 1 })

-- joint i of a structure
abbrev pub joint_of : Structure → ℕ → Joint
joint_of s i = joint_at s.joints i

-- the joint is between the materials a and b, in either order
abbrev pub joins : Joint → ℕ → ℕ → Bool
joins j a b = (nat_eq j.first a && nat_eq j.second b) || (nat_eq j.first b && nat_eq j.second a)

-- the terms of the coefficient of the joint between the materials a and b, if one is listed
abbrev pub joint_terms : List Joint → ℕ → ℕ → Option (ℤ × ℤ)
joint_terms js a b = option_map (λ j. (j.p, j.q)) (find (λ j. joins j a b) js)

-- what such terms are, by meaning: a listed joint is between the materials and has them, or none is between them
abbrev pub AreTermsBetween : List Joint → ℕ → ℕ → Option (ℤ × ℤ) → Type 0
AreTermsBetween js a b None = (i : ℕ) → i < length js → joins (joint_at js i) a b ≡ false
AreTermsBetween js a b (Some t) = (i : ℕ)
    × ((i < length js) × (joins (joint_at js i) a b ≡ true) × (t ≡ ((joint_at js i).p, (joint_at js i).q)))

-- body i of a list; past the end stands a fixed one without corners
abbrev pub body_at : List NamedBody → ℕ → NamedBody
body_at bs i = get_or bs i (record { name = []; material = 0; fixed = true; corners = [] })

-- body i of a structure
abbrev pub body_of : Structure → ℕ → NamedBody
body_of s i = body_at s.bodies i

-- load i of a structure; past the end stands one without a force
abbrev pub load_of : Structure → ℕ → Load
load_of s i = get_or s.loads i (record { body = 0; live = false; at = origin; fx = pos 0; fy = pos 0 })

-- the limits of every material: a name of 1 to 32 letters, digits, `_` and `-`, weight from 0 to 1,000,000, p
-- from 0 to 1,000, q from 1 to 1,000
pub record IsWithinLimits (m : NamedMaterial) : Type 0 where
  pub named : IsName m.name
  pub least_weight : pos 0 ≼ m.weight
  pub most_weight : m.weight ≼ greatest_weight
  pub least_p : pos 0 ≼ m.p
  pub most_p : m.p ≼ pos 1000
  pub least_q : pos 1 ≼ m.q
  pub most_q : m.q ≼ pos 1000

-- the terms of a coefficient: p from 0 to 1,000, q from 1 to 1,000
pub record AreTerms (t : ℤ × ℤ) : Type 0 where
  pub least_p : pos 0 ≼ t.0
  pub most_p : t.0 ≼ pos 1000
  pub least_q : pos 1 ≼ t.1
  pub most_q : t.1 ≼ pos 1000

-- the limits of every joint: between two of so many materials, p from 0 to 1,000, q from 1 to 1,000
pub record HasJointLimits (materials : ℕ) (j : Joint) : Type 0 where
  pub first : j.first < materials
  pub second : j.second < materials
  pub least_p : pos 0 ≼ j.p
  pub most_p : j.p ≼ pos 1000
  pub least_q : pos 1 ≼ j.q
  pub most_q : j.q ≼ pos 1000

-- each part of the sway is from -1,000 to 1,000
pub record IsSway (sway : ℤ × ℤ) : Type 0 where
  pub least_x : negsuc 999 ≼ sway.0
  pub most_x : sway.0 ≼ pos 1000
  pub least_y : negsuc 999 ≼ sway.1
  pub most_y : sway.1 ≼ pos 1000

-- the limits of every body: a name as materials have it, one of so many materials, and the corners of a polygon
pub record HasBodyLimits (materials : ℕ) (b : NamedBody) : Type 0 where
  pub named : IsName b.name
  pub has_material : b.material < materials
  pub polygon : IsPolygon b.corners

-- the limits of every load: on one of so many bodies, in range, and force components of at most 1,000,000,000 in size
pub record IsCarried (bodies : ℕ) (l : Load) : Type 0 where
  pub on_body : l.body < bodies
  pub in_range : IsInRange l.at
  pub least_fx : negsuc 999999999 ≼ l.fx
  pub most_fx : l.fx ≼ pos 1000000000
  pub least_fy : negsuc 999999999 ≼ l.fy
  pub most_fy : l.fy ≼ pos 1000000000

-- the sway is (0, 0)
abbrev pub is_still : ℤ × ℤ → Bool
is_still sway = int_eq sway.0 (pos 0) && int_eq sway.1 (pos 0)

-- whether a live load is listed: one of kind `live`, or a sway that isn't (0, 0)
abbrev pub lists_live : Structure → Bool
lists_live s = list_any (λ l. l.live) s.loads || not (is_still s.sway)

-- a live load is listed, by meaning
abbrev pub HasLive : Structure → Type 0
HasLive s = ((i : ℕ) × ((i < length s.loads) × ((load_of s i).live ≡ true))) ⊎ (s.sway ≢ (pos 0, pos 0))
