-- What holds of the structure of every model.
use Rattle.std.specs.Prelude.{◌≡◌, ◌≢◌, ℕ, ◌<◌, ◌≤◌, pos, true, false, not, List, [], length, get_or, count_by}
use Rattle.stack_whole.specs.Limits.{most_free}
use Rattle.stack_model.specs.declared.types.Joint.{Joint}
use Rattle.stack_model.specs.Limits.{most_materials, most_joints, most_bodies, most_fixed, most_loads, is_version}
use Rattle.stack_model.specs.Structure.{NamedBody, Structure, material_of, joint_at, joint_of, body_of, load_of, joins}
use Rattle.stack_model.specs.Structure.{IsWithinLimits, HasJointLimits, IsSway, HasBodyLimits, IsCarried}
use Rattle.stack_model.specs.Content.{material_names, body_names}

-- no two of these names are the same
abbrev pub AreDifferent : List (List ℕ) → Type 0
AreDifferent names = (i j : ℕ) → i < j → j < length names → ¬ (get_or names i [] ≡ get_or names j [])

-- how many of these bodies are fixed
abbrev pub fixed_among : List NamedBody → ℕ
fixed_among bs = count_by (λ b. b.fixed) bs

-- how many of these bodies are free
abbrev pub free_among : List NamedBody → ℕ
free_among bs = count_by (λ b. not b.fixed) bs

-- no two of these joints are between the same materials
abbrev pub AreOfDifferentPairs : List Joint → Type 0
AreOfDifferentPairs js = (i j : ℕ) → i < j → j < length js →
    joins (joint_at js i) (joint_at js j).first (joint_at js j).second ≡ false

-- joints and a sway come in version 2 alone
pub record IsOfItsVersion (s : Structure) : Type 0 where
  pub known : is_version s.version ≡ true
  pub joints : s.version ≢ pos 2 → s.joints ≡ []
  pub sway : s.version ≢ pos 2 → s.sway ≡ (pos 0, pos 0)

-- items and their counts within limits, loads on blocks alone, different names, different pairs of joints
pub record IsSound (s : Structure) : Type 0 where
  pub materials : (i : ℕ) → i < length s.materials → IsWithinLimits (material_of s i)
  pub version : IsOfItsVersion s
  pub sway : IsSway s.sway
  pub joints : (i : ℕ) → i < length s.joints → HasJointLimits (length s.materials) (joint_of s i)
  pub bodies : (i : ℕ) → i < length s.bodies → HasBodyLimits (length s.materials) (body_of s i)
  pub loads : (i : ℕ) → i < length s.loads → IsCarried (length s.bodies) (load_of s i)
  -- no load is on a fixed body
  pub free : (i : ℕ) → i < length s.loads → (body_of s (load_of s i).body).fixed ≡ false
  pub few_materials : length s.materials ≤ most_materials
  pub few_joints : length s.joints ≤ most_joints
  pub few_bodies : length s.bodies ≤ most_bodies
  pub few_free : free_among s.bodies ≤ most_free
  pub few_fixed : fixed_among s.bodies ≤ most_fixed
  pub few_loads : length s.loads ≤ most_loads
  -- materials have different names, and so have bodies
  pub different_materials : AreDifferent (material_names s.materials)
  pub different_bodies : AreDifferent (body_names s.bodies)
  -- joints are between different pairs of materials
  pub different_pairs : AreOfDifferentPairs s.joints
