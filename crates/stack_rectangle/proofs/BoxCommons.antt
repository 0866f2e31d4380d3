-- What two rectangles have in common: the points of their common ranges, on a segment or at a point where one
-- of the ranges, or both, are a single number.
use Rattle.std.proofs.Common.{◌≡◌, ℤ, pos, ◌+ℤ◌, ◌-ℤ◌, ◌*ℤ◌, List, false, sym, subst, arith, ◌↔◌}
use Rattle.stack_algebra.specs.IntegerOrder.{◌≼◌, ◌≺◌}
use Rattle.stack_algebra.proofs.Integers.{sums, expand}
use Rattle.stack_polygon.specs.declared.point.Point.{Point}
use Rattle.stack_polygon.specs.Plane.{Triple, IsAt}
use Rattle.stack_overlap.specs.Separation.{IsCommon}
use Rattle.stack_overlap.specs.CommonPoints.{IsOnSegment}
use Rattle.stack_rectangle.specs.Rectangles.{Extent, common_of}
use Rattle.stack_rectangle.proofs.LevelEdges.{pt, kept}
use Rattle.stack_rectangle.proofs.Boxes.{IsBox}
use Rattle.stack_rectangle.proofs.BoxPoints.{IsWithin, points}
use Rattle.stack_rectangle.proofs.CommonRanges.{to_common, of_common}

abbrev pub common_extent : Extent → Extent → Extent
common_extent a b = record { x = common_of a.x b.x; y = common_of a.y b.y }

pub commons : (ps qs : List Point) (a b : Extent) → IsBox ps a → IsBox qs b → (X : Triple)
    → IsCommon ps qs X ↔ IsWithin false (common_extent a b) X
commons ps qs a b one other X = (
  λ m.
      let p = (points false ps a one X).0 m.first in
      let q = (points false qs b other X).0 m.second in
      (to_common false a.x b.x X.x X.w p.0 q.0, to_common false a.y b.y X.y X.w p.1 q.1),
  λ c.
      let x = of_common false a.x b.x X.x X.w X.positive c.0 in
      let y = of_common false a.y b.y X.y X.w X.positive c.1 in
      record {
        first = (points false ps a one X).1 (x.0, y.0);
        second = (points false qs b other X).1 (x.1, y.1);
      },
)

-- on the line of a level segment
level_line : (x u y X Y w : ℤ) → x ≺ u
    → (u -ℤ x) *ℤ (Y -ℤ y *ℤ w) -ℤ (y -ℤ y) *ℤ (X -ℤ x *ℤ w) ≡ pos 0 ↔ (y *ℤ w ≼ Y) × (Y ≼ y *ℤ w)
level_line x u y X Y w h = (
  λ e. (
    (kept false (u -ℤ x) (y *ℤ w) Y (omega (arith, sums))).0 (simp expand (omega (arith, sums, simp expand at e))),
    (kept false (u -ℤ x) Y (y *ℤ w) (omega (arith, sums))).0 (simp expand (omega (arith, sums, simp expand at e))),
  ),
  λ p.
      let e : Y ≡ y *ℤ w = omega (arith, sums) in
      subst (λ z. (u -ℤ x) *ℤ (z -ℤ y *ℤ w) -ℤ (y -ℤ y) *ℤ (X -ℤ x *ℤ w) ≡ pos 0) (sym e)
      (simp expand (omega (arith, sums))),
)

-- ahead of one end on the way to the other
ahead : (x u y X Y w : ℤ) → x ≺ u
    → pos 0 ≼ (u -ℤ x) *ℤ (X -ℤ x *ℤ w) +ℤ (y -ℤ y) *ℤ (Y -ℤ y *ℤ w) ↔ x *ℤ w ≼ X
ahead x u y X Y w h =
    let e : (u -ℤ x) *ℤ (X -ℤ x *ℤ w) +ℤ (y -ℤ y) *ℤ (Y -ℤ y *ℤ w) ≡ (u -ℤ x) *ℤ (X -ℤ x *ℤ w) =
    simp expand (omega (arith, sums)) in
    rw e (kept false (u -ℤ x) (x *ℤ w) X (omega (arith, sums)))

behind : (x u y X Y w : ℤ) → x ≺ u
    → pos 0 ≼ (x -ℤ u) *ℤ (X -ℤ u *ℤ w) +ℤ (y -ℤ y) *ℤ (Y -ℤ y *ℤ w) ↔ X ≼ u *ℤ w
behind x u y X Y w h =
    let e : (x -ℤ u) *ℤ (X -ℤ u *ℤ w) +ℤ (y -ℤ y) *ℤ (Y -ℤ y *ℤ w) ≡ (u -ℤ x) *ℤ (u *ℤ w -ℤ X) =
    simp expand (omega (arith, sums)) in
    rw e (kept false (u -ℤ x) X (u *ℤ w) (omega (arith, sums)))

pub level_segment : (x u y v : ℤ) → x ≺ u → y ≡ v → (X : Triple)
    → IsWithin false (record { x = record { low = x; high = u }; y = record { low = y; high = v } }) X
    ↔ IsOnSegment (pt x y) (pt u v) X
level_segment x u y v h e = subst (λ v. (X : Triple)
    → IsWithin false (record { x = record { low = x; high = u }; y = record { low = y; high = v } }) X
    ↔ IsOnSegment (pt x y) (pt u v) X) e same
  where
    same : (X : Triple)
        → IsWithin false (record { x = record { low = x; high = u }; y = record { low = y; high = y } }) X
        ↔ IsOnSegment (pt x y) (pt u y) X
    same X = (
      λ c. record {
        on_line = (level_line x u y X.x X.y X.w h).1 c.1;
        from_start = (ahead x u y X.x X.y X.w h).1 c.0.0;
        from_end = (behind x u y X.x X.y X.w h).1 c.0.1;
      },
      λ s. (
        ((ahead x u y X.x X.y X.w h).0 s.from_start, (behind x u y X.x X.y X.w h).0 s.from_end),
        (level_line x u y X.x X.y X.w h).0 s.on_line,
      ),
    )

-- with x and y exchanged
abbrev mirrored : Point → Point
mirrored o = pt o.y o.x

abbrev mirror : Triple → Triple
mirror X = record { x = X.y; y = X.x; w = X.w; positive = X.positive }

mirrored_on : (a b : Point) (X : Triple) → IsOnSegment a b X → IsOnSegment (mirrored a) (mirrored b) (mirror X)
mirrored_on a b X s = record {
  on_line = omega (arith, sums);
  from_start = omega (arith, sums);
  from_end = omega (arith, sums);
}

pub upright_segment : (x u y v : ℤ) → x ≡ u → y ≺ v → (X : Triple)
    → IsWithin false (record { x = record { low = x; high = u }; y = record { low = y; high = v } }) X
    ↔ IsOnSegment (pt x y) (pt u v) X
upright_segment x u y v e h X = let k = level_segment y v x u h e (mirror X) in (
  λ c. mirrored_on (pt y x) (pt v u) (mirror X) (k.0 (c.1, c.0)),
  λ s. let c = k.1 (mirrored_on (pt x y) (pt u v) X s) in (c.1, c.0),
)

-- one number by one number is one point
pub one_point : (x u y v : ℤ) → x ≡ u → y ≡ v → (X : Triple)
    → IsWithin false (record { x = record { low = x; high = u }; y = record { low = y; high = v } }) X
    ↔ IsAt X (pt x y)
one_point x u y v e f X = (
  λ c. record { x = meet x u X.x X.w e c.0.0 c.0.1; y = meet y v X.y X.w f c.1.0 c.1.1 },
  λ k. (apart x u X.x X.w e k.x, apart y v X.y X.w f k.y),
)
  where
    meet : (l h z w : ℤ) → l ≡ h → l *ℤ w ≼ z → z ≼ h *ℤ w → z ≡ l *ℤ w
    meet l h z w e p q = let q' = subst (λ k. z ≼ k *ℤ w) (sym e) q in omega (arith, sums)

    apart : (l h z w : ℤ) → l ≡ h → z ≡ l *ℤ w → (l *ℤ w ≼ z) × (z ≼ h *ℤ w)
    apart l h z w e p = (omega (arith, sums), subst (λ k. z ≼ k *ℤ w) e (omega (arith, sums)))
