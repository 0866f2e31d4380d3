-- Lists of corners: edges, strict convexity, the points inside, and the list in the other order.
-- Edge i runs from corner i to the next one, and the last edge back to corner 0.
use mathlib.Core.Path.{◌≡◌}
use mathlib.Core.Logic.{◌≢◌, ◌⊎◌}
use mathlib.Core.List.{List, [], ◌∷◌}
use Prim.Native.Nat.{ℕ, ◌<◌}
use lib.IntN.{ℤ, pos}
use lib.ListN.{length, get_or}
use Rattle.std.specs.Prelude.{reverse}
use Rattle.stack_algebra.specs.IntegerOrder.{◌≼◌, ◌≺◌}
use Rattle.stack_algebra.specs.Search.{next_round}
use Rattle.stack_polygon.specs.declared.point.Point.{Point}
use Rattle.stack_polygon.specs.Plane.{Triple, triangle_of, left_of}

-- the point (0, 0), which also stands past the end of a list
abbrev pub origin : Point
origin = record { x = pos 0; y = pos 0 }

-- corner i of a list
abbrev pub corner_of : List Point → ℕ → Point
corner_of ps i = get_or ps i origin

-- the corner at which edge i ends
abbrev pub end_of : List Point → ℕ → Point
end_of ps i = corner_of ps (next_round (length ps) i)

-- twice the area of edge i with a corner: positive where the corner lies strictly left of the edge
abbrev pub side_of : List Point → ℕ → Point → ℤ
side_of ps i c = triangle_of (corner_of ps i) (end_of ps i) c

-- every other corner, by its place in the list, lies strictly left of edge i
abbrev pub IsClear : List Point → ℕ → Type 0
IsClear ps i = (j : ℕ) → j < length ps → j ≢ i → j ≢ next_round (length ps) i → pos 0 ≺ side_of ps i (corner_of ps j)

-- every other corner lies strictly left of each edge
abbrev pub IsStrictlyConvex : List Point → Type 0
IsStrictlyConvex ps = (i : ℕ) → i < length ps → IsClear ps i

-- a point left of the line of every edge, or on it
abbrev pub IsInside : List Point → Triple → Type 0
IsInside ps X = (i : ℕ) → i < length ps → pos 0 ≼ left_of (corner_of ps i) (end_of ps i) X

-- a point strictly left of the line of every edge
abbrev pub IsStrictlyInside : List Point → Triple → Type 0
IsStrictlyInside ps X = (i : ℕ) → i < length ps → pos 0 ≺ left_of (corner_of ps i) (end_of ps i) X

-- the list in the other order, with its first corner kept: P0, Pn, .., P1
abbrev pub reversed : List Point → List Point
reversed [] = []
reversed (p ∷ ps) = p ∷ reverse ps

-- a list stands for itself where it is strictly convex, and otherwise for its reversal
abbrev pub StandsFor : List Point → List Point → Type 0
StandsFor ps qs = (IsStrictlyConvex ps × (qs ≡ ps)) ⊎ ((¬ (IsStrictlyConvex ps)) × (qs ≡ reversed ps))
