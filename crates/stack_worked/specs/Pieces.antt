-- The pieces of small structures in short words: points, blocks, bearings, forces and moves.
-- Loads are in sixths of a unit of force, and blocks weigh one unit per area.
use Rattle.std.specs.Prelude.{ℕ, ℤ, pos, neg_ℤ, List, [], ◌∷◌, Bool, true, false, length, get_or}
use Rattle.stack_polygon.specs.declared.point.Point.{Point}
use Rattle.stack_polygon.specs.Corners.{corner_of}
use Rattle.stack_statics.specs.declared.wrench.Wrench.{Wrench}
use Rattle.stack_statics.specs.Scene.{Move, BearingPart, SceneBody, SceneBearing, Scene}
use Rattle.stack_statics.specs.Loads.{no_load, weight_of}
use Rattle.stack_statics.specs.Certificates.{SceneForces}

-- minus n
abbrev pub negative : ℕ → ℤ
negative n = neg_ℤ (pos n)

-- the point with these coordinates
abbrev pub at_point : ℤ → ℤ → Point
at_point x y = record { x = x; y = y }

-- the corners of an upright rectangle, from its lower left one on: x from x0 to x1, y from y0 to y1
abbrev pub upright : ℤ → ℤ → ℤ → ℤ → List Point
upright x0 x1 y0 y1 = at_point x0 y0 ∷ at_point x1 y0 ∷ at_point x1 y1 ∷ at_point x0 y1 ∷ []

-- a body with these corners, its weight, and a live load about its first corner
abbrev pub body_with : Bool → List Point → Wrench → SceneBody
body_with free corners live = record {
  free = free;
  ox = (corner_of corners 0).x;
  oy = (corner_of corners 0).y;
  dead = weight_of (pos 1) corners;
  live = live;
}

-- a body that stays where it is, with no live load
abbrev pub fixed_body : List Point → SceneBody
fixed_body corners = body_with false corners no_load

-- a free body, with no live load
abbrev pub free_body : List Point → SceneBody
free_body corners = body_with true corners no_load

-- a bearing between two bodies, at a point, with its tangent and its friction p over q
abbrev pub bearing_between : ℕ → ℕ → Point → ℤ → ℤ → ℤ → ℤ → SceneBearing
bearing_between first second at tx ty p q = record {
  first = first;
  second = second;
  px = at.x;
  py = at.y;
  tx = tx;
  ty = ty;
  p = p;
  q = q;
}

-- bodies and bearings in their order; past the end stand ones that mean nothing
abbrev pub scene_of_lists : List SceneBody → List SceneBearing → Scene
scene_of_lists bodies bearings = record {
  bodies = length bodies;
  body = λ i. get_or bodies i (fixed_body []);
  bearings = length bearings;
  bearing = λ k. get_or bearings k (bearing_between 0 0 (at_point (pos 0) (pos 0)) (pos 0) (pos 0) (pos 0) (pos 0));
}

-- forces that carry factor over scale, with these parts
abbrev pub forces_with : ℤ → ℤ → List BearingPart → SceneForces
forces_with scale factor parts = record { scale = scale; factor = factor; parts = parts }

-- forces at scale 1 that carry no live loads, with these parts
abbrev pub standing_forces : List BearingPart → SceneForces
standing_forces parts = forces_with (pos 1) (pos 0) parts

-- a along the normal of a bearing, and b along its tangent
abbrev pub bearing_part : ℤ → ℤ → BearingPart
bearing_part a b = record { a = a; b = b }

-- a part that pushes straight on
abbrev pub straight : ℤ → BearingPart
straight a = bearing_part a (pos 0)

-- the velocity (u, v) of a body's first corner, and its turning rate r, counter-clockwise
abbrev pub move : ℤ → ℤ → ℤ → Move
move u v r = record { u = u; v = v; r = r }
