-- What the outline of a list of points is, by meaning and without any test.
use Rattle.std.specs.Prelude.{◌≡◌, ℕ, ◌<◌, List, length, Ok, MatchResult}
use Rattle.stack_polygon.specs.declared.point.Point.{Point}
use Rattle.stack_polygon.specs.Corners.{reversed, IsStrictlyConvex, StandsFor}
use Rattle.stack_polygon.specs.Outlines.{outline_of}
use Rattle.stack_polygon.specs.Admission.{IsFirstUnclear}

-- a strictly convex list: ps itself where that is strictly convex, and otherwise its reversal
pub record IsOutlineOf (ps qs : List Point) : Type 0 where
  pub stands : StandsFor ps qs
  pub convex : IsStrictlyConvex qs

-- neither the list nor its reversal is strictly convex, and e is the first edge of the list as it is written that
-- doesn't have every other corner strictly left of it
pub record HasNoOutline (ps : List Point) (e : ℕ) : Type 0 where
  pub not_convex : ¬ (IsStrictlyConvex ps)
  pub nor_reversed : ¬ (IsStrictlyConvex (reversed ps))
  pub edge : IsFirstUnclear ps e

-- every list of points has an outline, or an edge that says why not
abbrev pub OutlineByMeaning : Type 0
OutlineByMeaning = (ps : List Point)
    → MatchResult (outline_of ps) (λ qs. IsOutlineOf ps qs) (λ e. HasNoOutline ps e)

-- fewer than three points, or none, are their own outline, as no edge has another corner than its ends: that a
-- polygon has at least three is a condition of its own
abbrev pub FewPointsAreTheirOutline : Type 0
FewPointsAreTheirOutline = (ps : List Point) → length ps < 3 → outline_of ps ≡ Ok ps
