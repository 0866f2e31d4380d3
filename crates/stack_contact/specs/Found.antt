-- The contacts of the pairs that come before a given one, as the survey finds them pair by pair.
use Rattle.std.specs.Prelude.{◌≡◌, ℕ, ◌<◌, List, [], ◌∷◌, Some, ⊤, slice_get}
use Rattle.stack_polygon.specs.Plane.{Triple}
use Rattle.stack_frame.specs.declared.frame.Frame.{Frame}
use Rattle.stack_frame.specs.declared.cone.Cone.{Cone}
use Rattle.stack_overlap.specs.Separation.{Overlaps}
use Rattle.stack_model.specs.Structure.{Structure}
use Rattle.stack_contact.specs.declared.types.Bearing.{Bearing}
use Rattle.stack_contact.specs.declared.types.Touch.{Touch}
use Rattle.stack_contact.specs.declared.types.Contacts.{Contacts}
use Rattle.stack_contact.specs.declared.types.Contacts.TheVariants.{Free, Touching, AtOne, AtTwo}
use Rattle.stack_contact.specs.declared.types.SurveyError.{SurveyError}
use Rattle.stack_contact.specs.declared.types.SurveyError.TheVariants.{Overlap, TooManyBearings, Memory}
use Rattle.stack_contact.specs.Bearings.{Bears, Touches}
use Rattle.stack_contact.specs.ContactLists.{corners_of, IsPair, PairBefore, ComesBefore, IsBearing}
use Rattle.stack_contact.specs.ContactLists.{IsBearingOf, IsTouch, IsTouchOf, AreBearings, AreTouches}
use Rattle.stack_contact.specs.Surveyed.{AreApart, AllApart, NoneOverlap, IsFirstOverlap}

-- the bearings and the touches of one pair
abbrev pub bearings_in : ℕ → ℕ → Cone → Contacts → List Bearing
bearings_in i j f Free = []
bearings_in i j f (Touching c) = []
bearings_in i j f (AtOne c t) = record { first = i; second = j; at = c; frame = t; cone = f } ∷ []
bearings_in i j f (AtTwo c d t) = record { first = i; second = j; at = c; frame = t; cone = f }
    ∷ record { first = i; second = j; at = d; frame = t; cone = f } ∷ []

-- the touch of one pair, where it has one: a pair that bears has none
abbrev pub touches_in : ℕ → ℕ → Contacts → List Touch
touches_in i j Free = []
touches_in i j (Touching c) = record { first = i; second = j; at = c } ∷ []
touches_in i j (AtOne c t) = []
touches_in i j (AtTwo c d t) = []

-- all bearings of the pairs before k, l, in order
pub record AreBearingsTo (s : Structure) (k l : ℕ) (zs : List Bearing) : Type 0 where
  pub each : (n : ℕ) (z : Bearing) → slice_get zs n ≡ Some z → IsBearing s z × PairBefore z.first z.second k l
  pub all : (i j : ℕ) (t : Frame) (X : Triple) → IsPair s i j → PairBefore i j k l
      → Bears (corners_of s i) (corners_of s j) t X
      → (n : ℕ) × (z : Bearing) × ((slice_get zs n ≡ Some z) × IsBearingOf i j t X z)
  pub in_order : (m n : ℕ) (y z : Bearing) → m < n → slice_get zs m ≡ Some y → slice_get zs n ≡ Some z
      → ComesBefore y.first y.second y.at z.first z.second z.at

-- all touches of the pairs before k, l, in order
pub record AreTouchesTo (s : Structure) (k l : ℕ) (zs : List Touch) : Type 0 where
  pub each : (n : ℕ) (z : Touch) → slice_get zs n ≡ Some z → IsTouch s z × PairBefore z.first z.second k l
  pub all : (i j : ℕ) (X : Triple) → IsPair s i j → PairBefore i j k l
      → Touches (corners_of s i) (corners_of s j) X
      → (n : ℕ) × (z : Touch) × ((slice_get zs n ≡ Some z) × IsTouchOf i j X z)
  pub in_order : (m n : ℕ) (y z : Touch) → m < n → slice_get zs m ≡ Some y → slice_get zs n ≡ Some z
      → ComesBefore y.first y.second y.at z.first z.second z.at

-- no pair before k, l overlaps, and these are their contacts
pub record AreFound (s : Structure) (k l : ℕ) (zs : List Bearing) (ts : List Touch) : Type 0 where
  pub apart : (i j : ℕ) → IsPair s i j → PairBefore i j k l → AreApart s i j
  pub clear : (i j : ℕ) → IsPair s i j → PairBefore i j k l → ¬ (Overlaps (corners_of s i) (corners_of s j))
  pub bearings : AreBearingsTo s k l zs
  pub touches : AreTouchesTo s k l ts

-- no pair overlaps, and these are all contacts
pub record AreAllFound (s : Structure) (zs : List Bearing) (ts : List Touch) : Type 0 where
  pub apart : AllApart s
  pub clear : NoneOverlap s
  pub bearings : AreBearings s zs
  pub touches : AreTouches s ts

-- why the search stops early
abbrev pub Stops : Structure → SurveyError → Type 0
Stops s (Overlap i j) = IsFirstOverlap s i j
Stops s (TooManyBearings count) = ⊥
Stops s Memory = ⊤
