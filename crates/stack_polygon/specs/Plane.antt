-- Points of the plane, as triples of whole numbers, and on which side of a line they lie.
-- Used by polygons, contacts and statics.
use mathlib.Core.Path.{◌≡◌}
use lib.IntN.{ℤ, pos, ◌+ℤ◌, ◌-ℤ◌, ◌*ℤ◌}
use Rattle.stack_algebra.specs.IntegerOrder.{◌≺◌}
use Rattle.stack_polygon.specs.declared.point.Point.{Point}

-- the point (x/w, y/w)
pub record Triple : Type 0 where
  pub x : ℤ
  pub y : ℤ
  pub w : ℤ
  pub positive : pos 0 ≺ w

-- two triples that mean the same are one point
pub record IsSamePoint (X Y : Triple) : Type 0 where
  pub x : X.x *ℤ Y.w ≡ Y.x *ℤ X.w
  pub y : X.y *ℤ Y.w ≡ Y.y *ℤ X.w

-- the triple means this corner
pub record IsAt (X : Triple) (c : Point) : Type 0 where
  pub x : X.x ≡ c.x *ℤ X.w
  pub y : X.y ≡ c.y *ℤ X.w

-- twice the area of the triangle o, p, q: positive where q lies left of the line from o to p, 0 on that line
abbrev pub triangle_of : Point → Point → Point → ℤ
triangle_of o p q = (p.x -ℤ o.x) *ℤ (q.y -ℤ o.y) -ℤ (p.y -ℤ o.y) *ℤ (q.x -ℤ o.x)

-- twice the area of the triangle o, p, X for any point X of the plane, times its w
abbrev pub left_of : Point → Point → Triple → ℤ
left_of o p X = (p.x -ℤ o.x) *ℤ (X.y -ℤ o.y *ℤ X.w) -ℤ (p.y -ℤ o.y) *ℤ (X.x -ℤ o.x *ℤ X.w)

-- how far q lies ahead of o on the way to p, times the distance of o and p
abbrev pub advance_of : Point → Point → Point → ℤ
advance_of o p q = (p.x -ℤ o.x) *ℤ (q.x -ℤ o.x) +ℤ (p.y -ℤ o.y) *ℤ (q.y -ℤ o.y)

-- how far any point X of the plane lies ahead of o on the way to p, times the distance of o and p and times its w
abbrev pub ahead_of : Point → Point → Triple → ℤ
ahead_of o p X = (p.x -ℤ o.x) *ℤ (X.x -ℤ o.x *ℤ X.w) +ℤ (p.y -ℤ o.y) *ℤ (X.y -ℤ o.y *ℤ X.w)
