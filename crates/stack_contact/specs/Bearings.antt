-- Where two polygons bear on one another, and with which tangent; where they only touch. The polygon ps is that
-- of the earlier body, and qs that of the later one.
use Rattle.std.specs.Prelude.{◌≡◌, ℕ, ◌<◌, ℤ, pos, ◌-ℤ◌, ◌*ℤ◌, ◌⊎◌, List, length}
use Rattle.stack_algebra.specs.IntegerOrder.{◌≼◌}
use Rattle.stack_polygon.specs.declared.point.Point.{Point}
use Rattle.stack_polygon.specs.Plane.{Triple, IsSamePoint}
use Rattle.stack_polygon.specs.Corners.{corner_of, end_of}
use Rattle.stack_frame.specs.declared.frame.Frame.{Frame}
use Rattle.stack_frame.specs.Directions.{IsLowest}
use Rattle.stack_overlap.specs.Separation.{IsCommon}
use Rattle.stack_overlap.specs.Ends.{IsExtremeIn}
use Rattle.stack_contact.specs.OnOutlines.{IsLone, IsCorner, IsOnEdge}

-- the step from o to p is a multiple of t
abbrev pub IsParallel : Frame → Point → Point → Type 0
IsParallel t o p = (p.x -ℤ o.x) *ℤ t.ty ≡ (p.y -ℤ o.y) *ℤ t.tx

-- the step from X to Y is a multiple of t
abbrev pub IsAlong : Frame → Triple → Triple → Type 0
IsAlong t X Y = (Y.x *ℤ X.w -ℤ X.x *ℤ Y.w) *ℤ t.ty ≡ (Y.y *ℤ X.w -ℤ X.y *ℤ Y.w) *ℤ t.tx

-- how far c lies left of the line through X along t, times the length of t and times w
abbrev pub left_along : Frame → Triple → Point → ℤ
left_along t X c = t.tx *ℤ (c.y *ℤ X.w -ℤ X.y) -ℤ t.ty *ℤ (c.x *ℤ X.w -ℤ X.x)

-- a second common point lies along t
abbrev pub HasSecond : List Point → List Point → Frame → Triple → Type 0
HasSecond ps qs t X = (Y : Triple) × (IsCommon ps qs Y × (¬ (IsSamePoint X Y)) × IsAlong t X Y)

-- X is on an edge of the polygon that is parallel to t
abbrev pub IsOnParallelEdge : List Point → Frame → Triple → Type 0
IsOnParallelEdge ps t X = (i : ℕ) × (IsOnEdge ps i X × IsParallel t (corner_of ps i) (end_of ps i))

-- X is a corner of ps alone, on an edge of qs that is parallel to t
pub record IsCornerOnEdge (ps qs : List Point) (t : Frame) (X : Triple) : Type 0 where
  pub corner : IsCorner ps X
  pub of_one : ¬ (IsCorner qs X)
  pub on_edge : IsOnParallelEdge qs t X

-- X is the lone common point, a corner of exactly one of the two on an edge of the other
pub record IsLoneCorner (ps qs : List Point) (t : Frame) (X : Triple) : Type 0 where
  pub lone : IsLone ps qs X
  pub corner : IsCornerOnEdge ps qs t X ⊎ IsCornerOnEdge qs ps t X

-- the two bear at X along t
pub record Bears (ps qs : List Point) (t : Frame) (X : Triple) : Type 0 where
  pub is_end : IsExtremeIn (IsCommon ps qs) X
  pub way : HasSecond ps qs t X ⊎ IsLoneCorner ps qs t X
  pub lowest : IsLowest t.tx t.ty
  pub later_left : (j : ℕ) → j < length qs → pos 0 ≼ left_along t X (corner_of qs j)
  pub earlier_right : (i : ℕ) → i < length ps → left_along t X (corner_of ps i) ≼ pos 0

-- the two touch at X: it is the lone common point and a corner of both
pub record Touches (ps qs : List Point) (X : Triple) : Type 0 where
  pub lone : IsLone ps qs X
  pub first : IsCorner ps X
  pub second : IsCorner qs X
