-- What holds of every polygon: strictly convex, counter-clockwise, 3 to 32 corners, coordinates of at most
-- 1,000,000 in size.
use mathlib.Core.Bool.{Bool, ◌&&◌}
use mathlib.Core.List.{List}
use Prim.Native.Nat.{ℕ, ◌<◌, ◌≤◌}
use lib.IntN.{ℤ, pos, negsuc}
use lib.ListN.{length}
use Rattle.std.specs.Prelude.{int_le}
use Rattle.std.specs.List.{list_all}
use Rattle.stack_algebra.specs.IntegerOrder.{◌≼◌}
use Rattle.stack_polygon.specs.declared.point.Point.{Point}
use Rattle.stack_polygon.specs.Corners.{corner_of, IsStrictlyConvex}

-- a coordinate from -1,000,000 to 1,000,000
pub record IsNear (z : ℤ) : Type 0 where
  pub low : negsuc 999999 ≼ z
  pub high : z ≼ pos 1000000

-- whether a coordinate is in range
abbrev pub is_near : ℤ → Bool
is_near z = int_le (negsuc 999999) z && int_le z (pos 1000000)

-- a point whose coordinates are in range
pub record IsInRange (c : Point) : Type 0 where
  pub x : IsNear c.x
  pub y : IsNear c.y

-- whether both coordinates of a point are in range
abbrev pub is_in_range : Point → Bool
is_in_range c = is_near c.x && is_near c.y

-- whether every corner is in range
abbrev pub are_in_range : List Point → Bool
are_in_range ps = list_all is_in_range ps

-- every corner in range
abbrev pub AreInRange : List Point → Type 0
AreInRange ps = (i : ℕ) → i < length ps → IsInRange (corner_of ps i)

-- a strictly convex list is counter-clockwise, since each edge has the others on its left
pub record IsPolygon (ps : List Point) : Type 0 where
  pub least : 3 ≤ length ps
  pub most : length ps ≤ 32
  pub in_range : AreInRange ps
  pub convex : IsStrictlyConvex ps
