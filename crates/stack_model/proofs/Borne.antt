-- A sound structure with other loads and another sway is sound.
use Rattle.std.proofs.Common.{ℤ, List}
use Rattle.stack_model.specs.declared.types.Load.{Load}
use Rattle.stack_model.specs.Structure.{Structure}
use Rattle.stack_model.specs.Sound.{IsSound}
use Rattle.stack_model.specs.Borne.{MayBear, bearing}

-- a sound structure stays sound with what it may bear
pub sound_bearing : (s : Structure) (ls : List Load) (sway : ℤ × ℤ) → IsSound s → MayBear s ls sway
    → IsSound (bearing s ls sway)
sound_bearing s ls sway h m = record {
  materials = h.materials;
  version = record { known = h.version.known; joints = h.version.joints; sway = m.of_version };
  sway = m.limits;
  joints = h.joints;
  bodies = h.bodies;
  loads = λ i lt. (m.each i _ lt).carried;
  free = λ i lt. (m.each i _ lt).free;
  few_materials = h.few_materials;
  few_joints = h.few_joints;
  few_bodies = h.few_bodies;
  few_free = h.few_free;
  few_fixed = h.few_fixed;
  few_loads = m.few;
  different_materials = h.different_materials;
  different_bodies = h.different_bodies;
  different_pairs = h.different_pairs;
}
