-- The bearings and the touches of a structure, each as the one list that has all of them in order.
use Rattle.std.specs.Prelude.{◌≡◌, ℕ, ◌<◌, ◌⊎◌, ◌&&◌, ℤ, false, List, length, Option, Some, None, slice_get}
use Rattle.stack_polygon.specs.declared.point.Point.{Point}
use Rattle.stack_polygon.specs.Plane.{Triple, IsAt}
use Rattle.stack_frame.specs.declared.frame.Frame.{Frame}
use Rattle.stack_frame.specs.declared.cone.Coefficient.{Coefficient}
use Rattle.stack_frame.specs.declared.cone.Cone.{Cone}
use Rattle.stack_frame.specs.Cones.{coefficient, lesser_of, lowest}
use Rattle.stack_model.specs.Structure.{Structure, material_of, body_of, joint_terms}
use Rattle.stack_contact.specs.declared.types.Bearing.{Bearing}
use Rattle.stack_contact.specs.declared.types.Touch.{Touch}
use Rattle.stack_overlap.specs.CommonPoints.{IsBefore}
use Rattle.stack_contact.specs.Bearings.{Bears, Touches}

-- the corners of body i
abbrev pub corners_of : Structure → ℕ → List Point
corners_of s i = (body_of s i).corners

-- i and j are two bodies in order, not both fixed
pub record IsPair (s : Structure) (i j : ℕ) : Type 0 where
  pub in_order : i < j
  pub is_body : j < length s.bodies
  pub not_both_fixed : ((body_of s i).fixed && (body_of s j).fixed) ≡ false

-- the friction of a material by itself
abbrev pub material_friction : Structure → ℕ → Coefficient
material_friction s m = let n = material_of s m in coefficient n.p n.q

-- the terms of a joint in lowest terms, or else the lesser of two coefficients
abbrev pub joint_or_lesser : Option (ℤ × ℤ) → Coefficient → Coefficient → Cone
joint_or_lesser (Some t) a b = lowest (coefficient t.0 t.1)
joint_or_lesser None a b = lesser_of a b

-- the friction between two materials, in lowest terms: that of their joint where one is listed, in either order, and
-- else the lesser of the two
abbrev pub friction_of_materials : Structure → ℕ → ℕ → Cone
friction_of_materials s m n =
    joint_or_lesser (joint_terms s.joints m n) (material_friction s m) (material_friction s n)

-- the friction between bodies i and j: that of their materials
abbrev pub friction_between : Structure → ℕ → ℕ → Cone
friction_between s i j = friction_of_materials s (body_of s i).material (body_of s j).material

-- the pair i, j comes before the pair k, l
abbrev pub PairBefore : ℕ → ℕ → ℕ → ℕ → Type 0
PairBefore i j k l = (i < k) ⊎ ((i ≡ k) × (j < l))

-- the point a of the pair i, j comes before the point b of the pair k, l
abbrev pub ComesBefore : ℕ → ℕ → Point → ℕ → ℕ → Point → Type 0
ComesBefore i j a k l b = PairBefore i j k l ⊎ ((i ≡ k) × (j ≡ l) × IsBefore a b)

-- the pair bears there, with the friction between its bodies
pub record IsBearing (s : Structure) (z : Bearing) : Type 0 where
  pub pair : IsPair s z.first z.second
  pub bears : (X : Triple) → IsAt X z.at → Bears (corners_of s z.first) (corners_of s z.second) z.frame X
  pub friction : z.cone ≡ friction_between s z.first z.second

-- the bearing is that of bodies i and j at X along t
pub record IsBearingOf (i j : ℕ) (t : Frame) (X : Triple) (z : Bearing) : Type 0 where
  pub first : z.first ≡ i
  pub second : z.second ≡ j
  pub along : z.frame ≡ t
  pub at : IsAt X z.at

-- the list of all bearings, in order, each once: also of those at points of the plane that are no whole points
pub record AreBearings (s : Structure) (zs : List Bearing) : Type 0 where
  pub each : (k : ℕ) (z : Bearing) → slice_get zs k ≡ Some z → IsBearing s z
  pub all : (i j : ℕ) (t : Frame) (X : Triple) → IsPair s i j → Bears (corners_of s i) (corners_of s j) t X →
      (k : ℕ) × (z : Bearing) × ((slice_get zs k ≡ Some z) × IsBearingOf i j t X z)
  pub in_order : (k l : ℕ) (y z : Bearing) → k < l → slice_get zs k ≡ Some y → slice_get zs l ≡ Some z →
      ComesBefore y.first y.second y.at z.first z.second z.at

-- the pair touches there
pub record IsTouch (s : Structure) (z : Touch) : Type 0 where
  pub pair : IsPair s z.first z.second
  pub touches : (X : Triple) → IsAt X z.at → Touches (corners_of s z.first) (corners_of s z.second) X

-- the touch is that of bodies i and j at X
pub record IsTouchOf (i j : ℕ) (X : Triple) (z : Touch) : Type 0 where
  pub first : z.first ≡ i
  pub second : z.second ≡ j
  pub at : IsAt X z.at

-- the list of all touches, in order, each once
pub record AreTouches (s : Structure) (zs : List Touch) : Type 0 where
  pub each : (k : ℕ) (z : Touch) → slice_get zs k ≡ Some z → IsTouch s z
  pub all : (i j : ℕ) (X : Triple) → IsPair s i j → Touches (corners_of s i) (corners_of s j) X →
      (k : ℕ) × (z : Touch) × ((slice_get zs k ≡ Some z) × IsTouchOf i j X z)
  pub in_order : (k l : ℕ) (y z : Touch) → k < l → slice_get zs k ≡ Some y → slice_get zs l ≡ Some z →
      ComesBefore y.first y.second y.at z.first z.second z.at
