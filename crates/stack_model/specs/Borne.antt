-- Loads and a sway that a structure may have in place of its own.
use Rattle.std.specs.Prelude.{◌≡◌, ◌≢◌, ◌≤◌, ℤ, pos, false, List, length}
use Rattle.std.specs.List.{All}
use Rattle.stack_model.specs.declared.types.Load.{Load}
use Rattle.stack_model.specs.Limits.{most_loads}
use Rattle.stack_model.specs.Structure.{NamedBody, Structure, structure_with, body_at, IsCarried, IsSway}

-- a load within the limits, on a free one of these bodies
pub record IsBorne (bs : List NamedBody) (l : Load) : Type 0 where
  pub carried : IsCarried (length bs) l
  pub free : (body_at bs l.body).fixed ≡ false

-- such loads, no more than a structure may have, and a sway within the limits, which is (0, 0) unless the version is 2
pub record MayBear (s : Structure) (ls : List Load) (sway : ℤ × ℤ) : Type 0 where
  pub few : length ls ≤ most_loads
  pub each : All (IsBorne s.bodies) ls
  pub limits : IsSway sway
  pub of_version : s.version ≢ pos 2 → sway ≡ (pos 0, pos 0)

-- the structure with these loads and this sway
abbrev pub bearing : Structure → List Load → ℤ × ℤ → Structure
bearing s ls sway = structure_with s.version sway s.materials s.joints s.bodies ls
