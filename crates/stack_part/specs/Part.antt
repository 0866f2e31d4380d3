-- The part of a survey: the bodies that are kept, with their loads and their contacts.
use Rattle.std.specs.Prelude.{ℕ, Bool, ◌&&◌, List}
use Rattle.stack_model.specs.Keeping.{kept_before, picked}
use Rattle.stack_model.specs.Part.{part_of}
use Rattle.stack_contact.specs.declared.types.Bearing.{Bearing}
use Rattle.stack_contact.specs.declared.types.Touch.{Touch}
use Rattle.stack_contact.specs.Surveyed.{Surveyed, surveyed}

-- a bearing of the same bodies among the kept ones
abbrev pub bearing_among : (ℕ → Bool) → Bearing → Bearing
bearing_among keeps z = record {
  first = kept_before keeps z.first;
  second = kept_before keeps z.second;
  at = z.at;
  frame = z.frame;
  cone = z.cone;
}

-- a touch of the same bodies among the kept ones
abbrev pub touch_among : (ℕ → Bool) → Touch → Touch
touch_among keeps z = record {
  first = kept_before keeps z.first;
  second = kept_before keeps z.second;
  at = z.at;
}

-- the bearings whose bodies are both kept
abbrev pub bearings_among : (ℕ → Bool) → List Bearing → List Bearing
bearings_among keeps zs = picked (λ z. keeps z.first && keeps z.second) (bearing_among keeps) zs

-- the touches whose bodies are both kept
abbrev pub touches_among : (ℕ → Bool) → List Touch → List Touch
touches_among keeps zs = picked (λ z. keeps z.first && keeps z.second) (touch_among keeps) zs

-- the part of a survey: of its structure, its bearings and its touches
abbrev pub surveyed_part : (ℕ → Bool) → Surveyed → Surveyed
surveyed_part keeps v =
    surveyed (part_of keeps v.structure) (bearings_among keeps v.bearings) (touches_among keeps v.touches)
