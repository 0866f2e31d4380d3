-- A structure whose live loads are two of its own, each with a multiple of its force, without its sway. And what of the
-- two is carried together.
use Rattle.std.specs.Prelude.{◌≡◌, ◌≢◌, ℕ, suc, ◌<◌, ℤ, pos, negsuc, ◌*ℤ◌, true, List, [], ◌∷◌, ◌++◌, length}
use Rattle.std.specs.Prelude.{nat_eq, if◌then◌else◌}
use Rattle.stack_algebra.specs.IntegerOrder.{◌≼◌}
use Rattle.stack_model.specs.declared.types.Load.{Load}
use Rattle.stack_model.specs.Structure.{Structure, load_of}
use Rattle.stack_model.specs.Borne.{bearing}
use Rattle.stack_contact.specs.Surveyed.{Surveyed, surveyed}
use Rattle.stack_statics.specs.declared.wrench.Wrench.{Wrench}
use Rattle.stack_statics.specs.Loads.{no_load, load_wrench}
use Rattle.stack_equilibrium.specs.SurveyScene.{first_corner_of, scene_of}
use Rattle.stack_pairs.specs.Pairs.{CarriesLoads}

-- a load with m times its force
abbrev pub times_load : ℤ → Load → Load
times_load m l = record { body = l.body; live = l.live; at = l.at; fx = m *ℤ l.fx; fy = m *ℤ l.fy }

-- what is left of load number k: a dead load as it is, live load i m times and live load j n times, no other
abbrev pub directed_load : (i j : ℕ) (m n : ℤ) → ℕ → Load → List Load
directed_load i j m n k l = if l.live then (if nat_eq k i then times_load m l ∷ []
    else (if nat_eq k j then times_load n l ∷ [] else [])) else l ∷ []

-- what is left of these loads, which are numbered from k on
abbrev pub directed_from : (i j : ℕ) (m n : ℤ) → ℕ → List Load → List Load
directed_from i j m n k [] = []
directed_from i j m n k (l ∷ ls) = directed_load i j m n k l ++ directed_from i j m n (suc k) ls

-- the structure with these loads and without a sway; its version, materials, joints and bodies are the same
abbrev pub directed_structure : Structure → (i j : ℕ) (m n : ℤ) → Structure
directed_structure s i j m n = bearing s (directed_from i j m n 0 s.loads) (pos 0, pos 0)

-- the survey of that structure: contacts depend neither on loads nor on the sway
abbrev pub directed_survey : Surveyed → (i j : ℕ) (m n : ℤ) → Surveyed
directed_survey s i j m n = surveyed (directed_structure s.structure i j m n) s.bearings s.touches

-- six times the wrench of load n on body i, about its first corner
abbrev pub wrench_on : Structure → ℕ → ℕ → Wrench
wrench_on s n i = if nat_eq (load_of s n).body i
    then load_wrench (first_corner_of s i) (load_of s n).at (load_of s n).fx (load_of s n).fy else no_load

-- a over D of load i and b over D of load j are carried together, with all dead loads, no other live load and no sway
abbrev pub CarriesPair : Surveyed → (i j : ℕ) (a b D : ℤ) → Type 0
CarriesPair s i j a b D = CarriesLoads (scene_of s) (wrench_on s.structure i) (wrench_on s.structure j) a b D

-- a live load with no component of more than 1,000,000 in size
pub record IsSlightLive (s : Structure) (i : ℕ) : Type 0 where
  pub listed : i < length s.loads
  pub live : (load_of s i).live ≡ true
  pub least_fx : negsuc 999999 ≼ (load_of s i).fx
  pub most_fx : (load_of s i).fx ≼ pos 1000000
  pub least_fy : negsuc 999999 ≼ (load_of s i).fy
  pub most_fy : (load_of s i).fy ≼ pos 1000000

-- two different live loads, neither with a component of more than 1,000,000 in size
pub record ArePair (s : Structure) (i j : ℕ) : Type 0 where
  pub different : i ≢ j
  pub first : IsSlightLive s i
  pub second : IsSlightLive s j

-- a factor of at most 1,000 in size for each
pub record AreFactors (m n : ℤ) : Type 0 where
  pub least_m : negsuc 999 ≼ m
  pub most_m : m ≼ pos 1000
  pub least_n : negsuc 999 ≼ n
  pub most_n : n ≼ pos 1000
