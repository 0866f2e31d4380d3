-- Spans of coordinates as sets of points: boxes with level and upright sides. A span whose bounds are the wrong
-- way round has no point.
use lib.IntN.{◌*ℤ◌}
use Rattle.std.specs.Int.{int_min, int_max}
use Rattle.stack_algebra.specs.IntegerOrder.{◌≼◌, ◌≺◌}
use Rattle.stack_polygon.specs.declared.point.Span.{Span}
use Rattle.stack_polygon.specs.Plane.{Triple}

-- X lies within the span, its bounds included
pub record IsInSpan (s : Span) (X : Triple) : Type 0 where
  pub from_x0 : s.x0 *ℤ X.w ≼ X.x
  pub to_x1 : X.x ≼ s.x1 *ℤ X.w
  pub from_y0 : s.y0 *ℤ X.w ≼ X.y
  pub to_y1 : X.y ≼ s.y1 *ℤ X.w

-- no point lies within both spans
abbrev pub AreDisjoint : Span → Span → Type 0
AreDisjoint a b = (X : Triple) → ¬ (IsInSpan a X × IsInSpan b X)

-- no x lies within both spans
abbrev pub HaveNoX : Span → Span → Type 0
HaveNoX a b = int_min a.x1 b.x1 ≺ int_max a.x0 b.x0

-- no y lies within both spans
abbrev pub HaveNoY : Span → Span → Type 0
HaveNoY a b = int_min a.y1 b.y1 ≺ int_max a.y0 b.y0
