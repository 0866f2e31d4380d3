-- When numbers are the least and the greatest coordinates of a list of corners.
use mathlib.Core.Path.{◌≡◌}
use mathlib.Core.List.{List}
use Prim.Native.Nat.{ℕ, ◌<◌}
use lib.IntN.{ℤ}
use lib.ListN.{length}
use Rattle.stack_algebra.specs.IntegerOrder.{◌≼◌}
use Rattle.stack_polygon.specs.declared.point.Point.{Point}
use Rattle.stack_polygon.specs.declared.point.Span.{Span}
use Rattle.stack_polygon.specs.Corners.{corner_of}

-- z is the least of the first n numbers f: none is less, and one is z
pub record IsLeast (n : ℕ) (f : ℕ → ℤ) (z : ℤ) : Type 0 where
  pub within : (j : ℕ) → j < n → z ≼ f j
  pub reached : (j : ℕ) × ((j < n) × (f j ≡ z))

-- z is the greatest of the first n numbers f: none is greater, and one is z
pub record IsGreatest (n : ℕ) (f : ℕ → ℤ) (z : ℤ) : Type 0 where
  pub within : (j : ℕ) → j < n → f j ≼ z
  pub reached : (j : ℕ) × ((j < n) × (f j ≡ z))

-- the least and the greatest coordinates of the first n corners
pub record IsSpanTo (n : ℕ) (ps : List Point) (s : Span) : Type 0 where
  pub x0 : IsLeast n (λ j. (corner_of ps j).x) s.x0
  pub y0 : IsLeast n (λ j. (corner_of ps j).y) s.y0
  pub x1 : IsGreatest n (λ j. (corner_of ps j).x) s.x1
  pub y1 : IsGreatest n (λ j. (corner_of ps j).y) s.y1

-- each corner lies within the span, and each bound is reached
abbrev pub IsSpanOf : List Point → Span → Type 0
IsSpanOf ps s = IsSpanTo (length ps) ps s
