-- The stages of an order of building: of each its structure and its survey, as parts of those of the whole.
use Rattle.std.specs.Prelude.{ℕ, nat_eq, nat_lt, Bool, ◌||◌, ◌&&◌, List, length, take}
use Rattle.std.specs.List.{list_any}
use Rattle.stack_model.specs.Structure.{Structure, body_of}
use Rattle.stack_contact.specs.Surveyed.{Surveyed}
use Rattle.stack_model.specs.Part.{part_of}
use Rattle.stack_part.specs.Part.{surveyed_part}

-- body i is fixed, or is one of these
abbrev pub is_fixed_or_among : Structure → List ℕ → ℕ → Bool
is_fixed_or_among s first i = (body_of s i).fixed || list_any (λ n. nat_eq n i) first

-- body i is fixed, or is one of these bodies, and there is such a body
abbrev pub is_built : Structure → List ℕ → ℕ → Bool
is_built s first i = nat_lt i (length s.bodies) && is_fixed_or_among s first i

-- stage k of an order: all fixed bodies and the first k blocks of the order, in the structure's own order of bodies,
-- with the loads on them, all materials, all joints and the sway
abbrev pub stage : Structure → List ℕ → ℕ → Structure
stage s order k = part_of (is_built s (take k order)) s

-- the survey of stage k: the bearings and the touches of the whole whose bodies are both built
abbrev pub surveyed_stage : Surveyed → List ℕ → ℕ → Surveyed
surveyed_stage v order k = surveyed_part (is_built v.structure (take k order)) v
