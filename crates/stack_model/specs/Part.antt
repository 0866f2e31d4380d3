-- The part of a structure: the bodies that are kept, with their loads.
use Rattle.std.specs.Prelude.{ℕ, Bool}
use Rattle.stack_model.specs.declared.types.Load.{Load}
use Rattle.stack_model.specs.Structure.{Structure, structure_with}
use Rattle.stack_model.specs.Sound.{IsSound}
use Rattle.stack_model.specs.Keeping.{kept, kept_before, picked}

-- a load on the same body among the kept ones
abbrev pub load_among : (ℕ → Bool) → Load → Load
load_among keeps l = record {
  body = kept_before keeps l.body;
  live = l.live;
  at = l.at;
  fx = l.fx;
  fy = l.fy;
}

-- the structure of the kept bodies, with the loads on them, all materials, all joints and the sway
abbrev pub part_of : (ℕ → Bool) → Structure → Structure
part_of keeps s = structure_with s.version s.sway s.materials s.joints (kept keeps s.bodies)
    (picked (λ l. keeps l.body) (load_among keeps) s.loads)

-- what holds of the structure of every model holds of its part
abbrev pub PartsAreSound : Type 0
PartsAreSound = (keeps : ℕ → Bool) (s : Structure) → IsSound s → IsSound (part_of keeps s)
