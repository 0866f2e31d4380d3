-- What two polygons have in common, by four cases.
use mathlib.Core.Path.{◌≡◌}
use mathlib.Core.Logic.{◌⊎◌}
use mathlib.Core.List.{List}
use Prim.Native.Nat.{ℕ, ◌<◌}
use lib.IntN.{pos}
use lib.ListN.{length}
use Rattle.std.specs.Prelude.{◌↔◌}
use Rattle.stack_algebra.specs.IntegerOrder.{◌≼◌, ◌≺◌}
use Rattle.stack_polygon.specs.declared.point.Point.{Point}
use Rattle.stack_polygon.specs.Plane.{Triple, IsAt, triangle_of, left_of, advance_of, ahead_of}
use Rattle.stack_polygon.specs.Corners.{corner_of, end_of}
use Rattle.stack_overlap.specs.declared.types.Which.{Which}
use Rattle.stack_overlap.specs.declared.types.Which.TheVariants.{First, Second}
use Rattle.stack_overlap.specs.declared.types.Common.{Common}
use Rattle.stack_overlap.specs.declared.types.Common.TheVariants.{Nothing, Corner, OnEdge, Segment}
use Rattle.stack_overlap.specs.Separation.{IsCommon}

-- X is on the segment from a to b: on its line, ahead of a on the way to b, and of b on the way to a
pub record IsOnSegment (a b : Point) (X : Triple) : Type 0 where
  pub on_line : left_of a b X ≡ pos 0
  pub from_start : pos 0 ≼ ahead_of a b X
  pub from_end : pos 0 ≼ ahead_of b a X

-- c is a corner of P
abbrev pub IsCornerOf : List Point → Point → Type 0
IsCornerOf P c = (i : ℕ) × ((i < length P) × (corner_of P i ≡ c))

-- c is on the segment from a to b and is neither end
pub record IsStrictlyBetween (a b c : Point) : Type 0 where
  pub on_line : triangle_of a b c ≡ pos 0
  pub from_start : pos 0 ≺ advance_of a b c
  pub from_end : pos 0 ≺ advance_of b a c

-- c is strictly within edge i of P
abbrev pub IsWithinEdge : List Point → ℕ → Point → Type 0
IsWithinEdge P i c = (i < length P) × IsStrictlyBetween (corner_of P i) (end_of P i) c

-- a is before b by x, then y
abbrev pub IsBefore : Point → Point → Type 0
IsBefore a b = (a.x ≺ b.x) ⊎ ((a.x ≡ b.x) × (a.y ≺ b.y))

-- c is a corner of one of the two, strictly within the edge of the other
abbrev pub IsOnOther : List Point → List Point → Point → Which → ℕ → Type 0
IsOnOther P Q c First i = IsCornerOf Q c × IsWithinEdge P i c
IsOnOther P Q c Second i = IsCornerOf P c × IsWithinEdge Q i c

-- exactly the common points of P and Q
abbrev pub IsCommonOf : List Point → List Point → Common → Type 0
IsCommonOf P Q Nothing = (X : Triple) → ¬ (IsCommon P Q X)
IsCommonOf P Q (Corner c) = IsCornerOf P c × IsCornerOf Q c × ((X : Triple) → IsCommon P Q X ↔ IsAt X c)
IsCommonOf P Q (OnEdge c e) = IsOnOther P Q c e.which e.index × ((X : Triple) → IsCommon P Q X ↔ IsAt X c)
IsCommonOf P Q (Segment a b) = IsBefore a b × ((X : Triple) → IsCommon P Q X ↔ IsOnSegment a b X)
