-- Ends of a set of points of the plane.
use mathlib.Core.Path.{◌≡◌}
use mathlib.Core.Logic.{◌⊎◌}
use lib.IntN.{pos, ◌+ℤ◌, ◌*ℤ◌}
use Rattle.stack_polygon.specs.Plane.{Triple, IsSamePoint, IsAt}
use Rattle.stack_overlap.specs.declared.types.Common.{Common}
use Rattle.stack_overlap.specs.declared.types.Common.TheVariants.{Nothing, Corner, OnEdge, Segment}

-- X is half-way between Y and Z
pub record IsMidpoint (X Y Z : Triple) : Type 0 where
  pub x : pos 2 *ℤ (Y.w *ℤ Z.w *ℤ X.x) ≡ X.w *ℤ (Y.x *ℤ Z.w +ℤ Z.x *ℤ Y.w)
  pub y : pos 2 *ℤ (Y.w *ℤ Z.w *ℤ X.y) ≡ X.w *ℤ (Y.y *ℤ Z.w +ℤ Z.y *ℤ Y.w)

-- X is in the set C, and is not the midpoint of two different points of it
pub record IsExtremeIn (C : Triple → Type 0) (X : Triple) : Type 0 where
  pub is_in : C X
  pub extreme : (Y Z : Triple) → C Y → C Z → IsMidpoint X Y Z → IsSamePoint Y Z

-- the ends that an answer names: a lone point, or the two ends of a segment
abbrev pub IsEndAt : Common → Triple → Type 0
IsEndAt Nothing X = ⊥
IsEndAt (Corner c) X = IsAt X c
IsEndAt (OnEdge c e) X = IsAt X c
IsEndAt (Segment a b) X = IsAt X a ⊎ IsAt X b
