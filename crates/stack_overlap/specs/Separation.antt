-- Edges that separate two polygons, and points inside both.
use Prim.Native.Nat.{ℕ, ◌<◌}
use mathlib.Core.List.{List}
use lib.IntN.{pos}
use lib.ListN.{length}
use Rattle.stack_algebra.specs.IntegerOrder.{◌≼◌}
use Rattle.stack_polygon.specs.declared.point.Point.{Point}
use Rattle.stack_polygon.specs.Plane.{Triple}
use Rattle.stack_polygon.specs.Corners.{corner_of, side_of, IsInside, IsStrictlyInside}
use Rattle.stack_overlap.specs.declared.types.Which.{Which}
use Rattle.stack_overlap.specs.declared.types.Which.TheVariants.{First, Second}
use Rattle.stack_overlap.specs.declared.types.Edge.{Edge}

-- X is inside both
pub record IsCommon (P Q : List Point) (X : Triple) : Type 0 where
  pub first : IsInside P X
  pub second : IsInside Q X

-- some point is strictly inside both
abbrev pub Overlaps : List Point → List Point → Type 0
Overlaps P Q = (X : Triple) × (IsStrictlyInside P X × IsStrictlyInside Q X)

-- no corner of Q lies strictly left of edge i of P
pub record Separates (P : List Point) (i : ℕ) (Q : List Point) : Type 0 where
  pub is_edge : i < length P
  pub apart : (j : ℕ) → j < length Q → side_of P i (corner_of Q j) ≼ pos 0

-- edge i of one of the two separates them
abbrev pub IsSeparatedBy : List Point → List Point → Which → ℕ → Type 0
IsSeparatedBy P Q First i = Separates P i Q
IsSeparatedBy P Q Second i = Separates Q i P

-- edge i is P's first that separates it from Q
pub record IsFirstSeparating (P : List Point) (i : ℕ) (Q : List Point) : Type 0 where
  pub separates : Separates P i Q
  pub before : (k : ℕ) → k < i → ¬ (Separates P k Q)

-- no edge of P separates it from Q
abbrev pub NoneSeparates : List Point → List Point → Type 0
NoneSeparates P Q = (k : ℕ) → ¬ (Separates P k Q)

-- the first edge that separates the two, those of P before those of Q
abbrev pub IsFirstOf : List Point → List Point → Which → ℕ → Type 0
IsFirstOf P Q First i = IsFirstSeparating P i Q
IsFirstOf P Q Second i = NoneSeparates P Q × IsFirstSeparating Q i P

-- the edge is the first that separates the two, in that order
abbrev pub IsSeparator : List Point → List Point → Edge → Type 0
IsSeparator P Q e = IsFirstOf P Q e.which e.index
