-- Linear forms at the points of the plane: the line of an edge, the place along it, a coordinate are all forms.
use mathlib.Core.Path.{◌≡◌}
use mathlib.Core.List.{List}
use Prim.Native.Nat.{ℕ}
use lib.IntN.{ℤ, pos, ◌+ℤ◌, ◌-ℤ◌, ◌*ℤ◌}
use Rattle.stack_algebra.specs.IntegerOrder.{◌≼◌}
use Rattle.stack_polygon.specs.declared.point.Point.{Point}
use Rattle.stack_polygon.specs.Plane.{Triple}
use Rattle.stack_polygon.specs.Corners.{corner_of, end_of}

-- the linear form l*x + m*y + n*w
pub record LinearForm : Type 0 where
  pub l : ℤ
  pub m : ℤ
  pub n : ℤ

-- a form at a point, times the point's w
abbrev pub value : LinearForm → Triple → ℤ
value f X = f.l *ℤ X.x +ℤ f.m *ℤ X.y +ℤ f.n *ℤ X.w

-- a form at a corner
abbrev pub at_corner : LinearForm → Point → ℤ
at_corner f c = f.l *ℤ c.x +ℤ f.m *ℤ c.y +ℤ f.n

-- the line from a to b: positive on its left
abbrev pub line : Point → Point → LinearForm
line a b = record { l = a.y -ℤ b.y; m = b.x -ℤ a.x; n = a.x *ℤ b.y -ℤ b.x *ℤ a.y }

-- the line of edge i
abbrev pub edge : List Point → ℕ → LinearForm
edge P i = line (corner_of P i) (end_of P i)

-- how far a point lies ahead of a on the way to b, times the distance of a and b
abbrev pub along : Point → Point → LinearForm
along a b = record { l = b.x -ℤ a.x; m = b.y -ℤ a.y; n = (a.x -ℤ b.x) *ℤ a.x +ℤ (a.y -ℤ b.y) *ℤ a.y }

-- the square of the distance of a and b
abbrev pub square : Point → Point → ℤ
square a b = (b.x -ℤ a.x) *ℤ (b.x -ℤ a.x) +ℤ (b.y -ℤ a.y) *ℤ (b.y -ℤ a.y)

-- X is on the line from a to b, between the places lo and hi
pub record IsOnStretch (a b : Point) (lo hi : ℤ) (X : Triple) : Type 0 where
  pub on_line : value (line a b) X ≡ pos 0
  pub above : lo *ℤ X.w ≼ value (along a b) X
  pub below : value (along a b) X ≼ hi *ℤ X.w

-- X is between a and b
abbrev pub IsBetween : Point → Point → Triple → Type 0
IsBetween a b X = IsOnStretch a b (pos 0) (square a b) X

-- a corner on the line from a to b, at the place k
pub record IsMark (a b c : Point) (k : ℤ) : Type 0 where
  pub on_line : at_corner (line a b) c ≡ pos 0
  pub place : at_corner (along a b) c ≡ k
