-- The survey of a structure: its contacts, or why it has none. The least pair that no edge
-- separates is refused; if there is none, more than 1,024 bearings are.
use Rattle.std.specs.Prelude.{◌≡◌, ℕ, ◌<◌, ◌≤◌, ◌⊎◌, List, length, Result, Ok, Err, ⊤}
use Rattle.stack_whole.specs.Limits.{most_bearings}
use Rattle.stack_polygon.specs.declared.point.Point.{Point}
use Rattle.stack_model.specs.Structure.{Structure}
use Rattle.stack_contact.specs.declared.types.Bearing.{Bearing}
use Rattle.stack_contact.specs.declared.types.Touch.{Touch}
use Rattle.stack_contact.specs.declared.types.SurveyError.{SurveyError}
use Rattle.stack_contact.specs.declared.types.SurveyError.TheVariants.{Overlap, TooManyBearings, Memory}
use Rattle.stack_overlap.specs.Separation.{Separates, Overlaps}
use Rattle.stack_contact.specs.ContactLists.{corners_of, IsPair, PairBefore, AreBearings, AreTouches}

-- what the contracts see of a survey
pub record Surveyed : Type 0 where
  pub structure : Structure
  pub bearings : List Bearing
  pub touches : List Touch

-- a structure with these bearings and touches
abbrev pub surveyed : Structure → List Bearing → List Touch → Surveyed
surveyed s zs ts = record { structure = s; bearings = zs; touches = ts }

-- an edge of one of the two polygons separates them
abbrev pub AreSeparated : List Point → List Point → Type 0
AreSeparated ps qs = ((i : ℕ) × Separates ps i qs) ⊎ ((j : ℕ) × Separates qs j ps)

-- an edge of body i or of body j separates the two
abbrev pub AreApart : Structure → ℕ → ℕ → Type 0
AreApart s i j = AreSeparated (corners_of s i) (corners_of s j)

-- an edge separates each pair that isn't of two fixed bodies
abbrev pub AllApart : Structure → Type 0
AllApart s = (i j : ℕ) → IsPair s i j → AreApart s i j

-- no point is strictly inside both bodies of a pair
abbrev pub NoneOverlap : Structure → Type 0
NoneOverlap s = (i j : ℕ) → IsPair s i j → ¬ (Overlaps (corners_of s i) (corners_of s j))

-- the least pair that overlaps: no edge separates it, and some point is strictly inside both
pub record IsFirstOverlap (s : Structure) (i j : ℕ) : Type 0 where
  pub pair : IsPair s i j
  pub overlaps : ¬ (AreApart s i j)
  pub shared : Overlaps (corners_of s i) (corners_of s j)
  pub first : (k l : ℕ) → IsPair s k l → PairBefore k l i j → AreApart s k l

-- no pair overlaps, and the bearings are so many, more than 1,024
pub record AreTooMany (s : Structure) (count : ℕ) : Type 0 where
  pub apart : AllApart s
  pub clear : NoneOverlap s
  pub bearings : List Bearing
  pub are_all : AreBearings s bearings
  pub counted : length bearings ≡ count
  pub many : most_bearings < count

-- the survey of the structure
pub record IsSurvey (s : Structure) (v : Surveyed) : Type 0 where
  pub structure : v.structure ≡ s
  pub apart : AllApart s
  pub clear : NoneOverlap s
  pub bearings : AreBearings s v.bearings
  pub few : length v.bearings ≤ most_bearings
  pub touches : AreTouches s v.touches

-- what surveying a structure answers. `Memory` may come at any time; of the other answers one holds.
abbrev pub Surveys : Structure → Result Surveyed SurveyError → Type 0
Surveys s (Ok v) = IsSurvey s v
Surveys s (Err (Overlap i j)) = IsFirstOverlap s i j
Surveys s (Err (TooManyBearings count)) = AreTooMany s count
Surveys s (Err Memory) = ⊤
