-- What a list of corners becomes: a polygon, or else the first refusal that applies.
use mathlib.Core.Bool.{Bool, ◌&&◌}
use mathlib.Core.List.{List}
use Prim.Native.Nat.{ℕ, ◌<◌, ◌≤◌}
use lib.ListN.{length}
use Rattle.std.specs.Prelude.{Result, Ok, Err, nat_le, if◌then◌else◌}
use Rattle.stack_polygon.specs.declared.point.Point.{Point}
use Rattle.stack_polygon.specs.declared.errors.PolygonError.{PolygonError}
use Rattle.stack_polygon.specs.declared.errors.PolygonError.TheVariants.{Corners, Range, NotConvex}
use Rattle.stack_polygon.specs.Corners.{corner_of, reversed, IsClear, IsStrictlyConvex, StandsFor}
use Rattle.stack_polygon.specs.Limits.{IsInRange, AreInRange, is_in_range, are_in_range}
use Rattle.stack_polygon.specs.Outlines.{first_failing, outline_of}

-- a number of corners that a polygon may have
pub record IsCount (n : ℕ) : Type 0 where
  pub least : 3 ≤ n
  pub most : n ≤ 32

-- corner i is the first that is out of range
pub record IsFirstFar (ps : List Point) (i : ℕ) : Type 0 where
  pub is_corner : i < length ps
  pub before : (k : ℕ) → k < i → IsInRange (corner_of ps k)
  pub far : ¬ (IsInRange (corner_of ps i))

-- edge i is the first that doesn't have every other corner strictly left of it
pub record IsFirstUnclear (ps : List Point) (i : ℕ) : Type 0 where
  pub is_edge : i < length ps
  pub before : (k : ℕ) → k < i → IsClear ps k
  pub unclear : ¬ (IsClear ps i)

-- the list ps gives the polygon qs: itself where it is strictly convex, and otherwise its reversal
pub record IsAdmittedAs (ps qs : List Point) : Type 0 where
  pub count : IsCount (length ps)
  pub in_range : AreInRange ps
  pub stands : StandsFor ps qs
  pub convex : IsStrictlyConvex qs

-- the first of the three refusals that applies
abbrev pub IsRefusedAs : List Point → PolygonError → Type 0
IsRefusedAs ps Corners = ¬ (IsCount (length ps))
IsRefusedAs ps (Range i) = IsCount (length ps) × IsFirstFar ps i
IsRefusedAs ps (NotConvex e) =
    IsCount (length ps) × AreInRange ps × IsFirstUnclear ps e × (¬ (IsStrictlyConvex (reversed ps)))

-- whether a polygon may have so many corners
abbrev pub is_count : ℕ → Bool
is_count n = nat_le 3 n && nat_le n 32

-- the first corner that is out of range, where there is one
abbrev pub first_far_of : List Point → ℕ
first_far_of ps = first_failing (λ i. is_in_range (corner_of ps i)) (length ps)

-- the outline, or the refusal that names the edge
abbrev pub with_edge : Result (List Point) ℕ → Result (List Point) PolygonError
with_edge (Ok qs) = Ok qs
with_edge (Err e) = Err (NotConvex e)

-- the outline of a list of corners, or its first refusal: by their number, by a range, by an edge
abbrev pub polygon_of : List Point → Result (List Point) PolygonError
polygon_of ps =
    if is_count (length ps) then (if are_in_range ps then with_edge (outline_of ps) else Err (Range (first_far_of ps)))
    else Err Corners
