-- The outline of a list of corners, by tests: the list where it is strictly convex, or else its reversal
-- where that is, or else the first edge of the list as it is written that doesn't have every other corner
-- strictly left of it.
use mathlib.Core.Bool.{Bool, true, ◌&&◌, ◌||◌}
use mathlib.Core.List.{List}
use Prim.Native.Nat.{ℕ, zero, suc}
use lib.IntN.{pos}
use lib.ListN.{length}
use Rattle.std.specs.Prelude.{Result, Ok, Err, ◌==◌, int_lt, if◌then◌else◌}
use Rattle.stack_polygon.specs.declared.point.Point.{Point}
use Rattle.stack_algebra.specs.Search.{next_round}
use Rattle.stack_polygon.specs.Corners.{corner_of, side_of, reversed}

-- whether corner j is an end of edge i, or lies strictly left of it
abbrev pub is_left_or_end : List Point → ℕ → ℕ → Bool
is_left_or_end ps i j = (j == i || j == next_round (length ps) i) || int_lt (pos 0) (side_of ps i (corner_of ps j))

-- whether every number below n passes
abbrev pub all_below : (ℕ → Bool) → ℕ → Bool
all_below p zero = true
all_below p (suc n) = all_below p n && p n

-- whether every other corner lies strictly left of edge i
abbrev pub is_clear : List Point → ℕ → Bool
is_clear ps i = all_below (is_left_or_end ps i) (length ps)

-- whether the list is strictly convex: so it is for each edge
abbrev pub is_convex : List Point → Bool
is_convex ps = all_below (is_clear ps) (length ps)

-- the first number below n that doesn't pass; it says nothing where all pass
abbrev pub first_failing : (ℕ → Bool) → ℕ → ℕ
first_failing p zero = zero
first_failing p (suc n) = if all_below p n then n else first_failing p n

-- the list or its reversal, whichever is strictly convex, or else the list's first edge that isn't clear
abbrev pub outline_of : List Point → Result (List Point) ℕ
outline_of ps =
    if is_convex ps then Ok ps
    else (if is_convex (reversed ps) then Ok (reversed ps) else Err (first_failing (is_clear ps) (length ps)))
