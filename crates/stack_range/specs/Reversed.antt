-- The reversed structure: each live load's force and the sway have the opposite sign. All else is the same, so its
-- bearings and its touches are those of the structure.
use Rattle.std.specs.Prelude.{ℤ, neg_ℤ, map, if◌then◌else◌}
use Rattle.stack_model.specs.declared.types.Load.{Load}
use Rattle.stack_model.specs.Structure.{Structure}
use Rattle.stack_model.specs.Borne.{bearing}
use Rattle.stack_contact.specs.Surveyed.{Surveyed, surveyed}
use Rattle.stack_statics.specs.declared.wrench.Wrench.{Wrench}
use Rattle.stack_statics.specs.Scene.{SceneBody, Scene}

-- a live load with the opposite force; a dead one as it is
abbrev pub reversed_load : Load → Load
reversed_load l = record {
  body = l.body;
  live = l.live;
  at = l.at;
  fx = if l.live then neg_ℤ l.fx else l.fx;
  fy = if l.live then neg_ℤ l.fy else l.fy;
}

-- a sway to the other side
abbrev pub reversed_sway : ℤ × ℤ → ℤ × ℤ
reversed_sway sway = (neg_ℤ sway.0, neg_ℤ sway.1)

-- a structure with all its live loads and its sway reversed
abbrev pub reversed_structure : Structure → Structure
reversed_structure s = bearing s (map reversed_load s.loads) (reversed_sway s.sway)

-- the survey of the reversed structure, with its contacts, which are the same
abbrev pub reversed_survey : Surveyed → Surveyed
reversed_survey v = surveyed (reversed_structure v.structure) v.bearings v.touches

-- the opposite of a force and a moment
abbrev pub opposite_wrench : Wrench → Wrench
opposite_wrench w = record { fx = neg_ℤ w.fx; fy = neg_ℤ w.fy; m = neg_ℤ w.m }

-- a body whose live loads are reversed
abbrev pub reversed_body : SceneBody → SceneBody
reversed_body b = record { free = b.free; ox = b.ox; oy = b.oy; dead = b.dead; live = opposite_wrench b.live }

-- the scene of the reversed structure
abbrev pub reversed_scene : Scene → Scene
reversed_scene s = record {
  bodies = s.bodies;
  body = λ i. reversed_body (s.body i);
  bearings = s.bearings;
  bearing = s.bearing;
}
