-- Spans with no point in common, and the spans of polygons.
use Rattle.std.proofs.Common.{◌≡◌, ℕ, ◌<◌, ℤ, pos, negsuc, ◌+ℤ◌, ◌-ℤ◌, ◌*ℤ◌, List, length, Bool, true, false, cond, ◌⊎◌}
use Rattle.std.proofs.Common.{inl, inr, refl, arith, ◌↔◌, int_lt, IsTrue}
use Rattle.std.specs.Int.{int_min, int_max}
use Rattle.std.proofs.lemmas.Int.{ints}
use Rattle.stack_algebra.specs.IntegerOrder.{◌≼◌, ◌≺◌}
use Rattle.stack_algebra.proofs.Integers.{sums, expand}
use Rattle.stack_algebra.proofs.Order.{mul_pos}
use Rattle.stack_polygon.specs.declared.point.Point.{Point}
use Rattle.stack_polygon.specs.declared.point.Span.{Span}
use Rattle.stack_polygon.specs.Plane.{Triple}
use Rattle.stack_polygon.specs.Corners.{corner_of, IsInside}
use Rattle.stack_polygon.specs.Limits.{IsPolygon}
use Rattle.stack_polygon.specs.Spans.{IsSpanOf}
use Rattle.stack_overlap.specs.Separation.{IsCommon, Overlaps}
use Rattle.stack_overlap.specs.Boxes.{IsInSpan, AreDisjoint, HaveNoX, HaveNoY}
use Rattle.stack_overlap.proofs.ByForms.{convex-form, inside-form}
use Rattle.stack_overlap.proofs.Support.{below-inside}

-- what is past two numbers is past the greater, and what is before two is before the less
past-both : (x y z w : ℤ) → x *ℤ w ≼ z → y *ℤ w ≼ z → int_max x y *ℤ w ≼ z
past-both x y z w p q = go (int_lt y x)
  where
    go : (b : Bool) → cond b x y *ℤ w ≼ z
    go true = p
    go false = q

before-both : (x y z w : ℤ) → z ≼ x *ℤ w → z ≼ y *ℤ w → z ≼ int_min x y *ℤ w
before-both x y z w p q = go (int_lt y x)
  where
    go : (b : Bool) → z ≼ cond b y x *ℤ w
    go true = q
    go false = p

max-bounds : (x y : ℤ) → (x ≼ int_max x y) × (y ≼ int_max x y)
max-bounds x y = go (int_lt y x) refl
  where
    go : (b : Bool) → int_lt y x ≡ b → (x ≼ cond b x y) × (y ≼ cond b x y)
    go true e = (omega (arith, sums), grind (arith, ints))
    go false e = (grind (arith, ints), omega (arith, sums))

min-bounds : (x y : ℤ) → (int_min x y ≼ x) × (int_min x y ≼ y)
min-bounds x y = go (int_lt y x) refl
  where
    go : (b : Bool) → int_lt y x ≡ b → (cond b y x ≼ x) × (cond b y x ≼ y)
    go true e = (grind (arith, ints), omega (arith, sums))
    go false e = (omega (arith, sums), grind (arith, ints))

-- no number lies from l to h
no-number : (l h z w : ℤ) → pos 0 ≺ w → h ≺ l → l *ℤ w ≼ z → z ≼ h *ℤ w → ⊥
no-number l h z w p e a b = let m = mul_pos (l -ℤ h) w (omega (arith, sums)) p in
    omega (arith, sums, simp expand at m)

which : (l h : ℤ) → (h ≺ l) ⊎ (l ≼ h)
which l h = go (int_lt h l) refl
  where
    go : (b : Bool) → int_lt h l ≡ b → (h ≺ l) ⊎ (l ≼ h)
    go true e = inl (grind (arith, ints))
    go false e = inr (grind (arith, ints))

over-one : (a z : ℤ) → a ≼ z → a *ℤ pos 1 ≼ z
over-one a z l = omega (arith, ints)

one-over : (a z : ℤ) → z ≼ a → z ≼ a *ℤ pos 1
one-over a z l = omega (arith, ints)

through : {x y z : ℤ} → x ≼ y → y ≼ z → x ≼ z
through l m = omega (arith, sums)

-- the greater of two beginnings lies in both where the less of the ends is not before it
in-first : (a b c d : ℤ) → int_max a b ≼ int_min c d
    → (a *ℤ pos 1 ≼ int_max a b) × (int_max a b ≼ c *ℤ pos 1)
in-first a b c d h = (
  over-one a (int_max a b) (max-bounds a b).0,
  one-over c (int_max a b) (through h (min-bounds c d).0),
)

in-second : (a b c d : ℤ) → int_max a b ≼ int_min c d
    → (b *ℤ pos 1 ≼ int_max a b) × (int_max a b ≼ d *ℤ pos 1)
in-second a b c d h = (
  over-one b (int_max a b) (max-bounds a b).1,
  one-over d (int_max a b) (through h (min-bounds c d).1),
)

pub disjoint : (a b : Span) → (HaveNoX a b ⊎ HaveNoY a b) ↔ AreDisjoint a b
disjoint a b = (
  forth,
  λ d. back d (which (int_max a.x0 b.x0) (int_min a.x1 b.x1))
      (which (int_max a.y0 b.y0) (int_min a.y1 b.y1)),
)
  where
    forth : HaveNoX a b ⊎ HaveNoY a b → AreDisjoint a b
    forth (inl h) X (m, n) = no-number (int_max a.x0 b.x0) (int_min a.x1 b.x1) X.x X.w X.positive h
        (past-both a.x0 b.x0 X.x X.w m.from_x0 n.from_x0) (before-both a.x1 b.x1 X.x X.w m.to_x1 n.to_x1)
    forth (inr h) X (m, n) = no-number (int_max a.y0 b.y0) (int_min a.y1 b.y1) X.y X.w X.positive h
        (past-both a.y0 b.y0 X.y X.w m.from_y0 n.from_y0) (before-both a.y1 b.y1 X.y X.w m.to_y1 n.to_y1)

    corner : Triple
    corner = record { x = int_max a.x0 b.x0; y = int_max a.y0 b.y0; w = pos 1; positive = omega (arith, ints) }

    back : AreDisjoint a b → HaveNoX a b ⊎ (int_max a.x0 b.x0 ≼ int_min a.x1 b.x1)
        → HaveNoY a b ⊎ (int_max a.y0 b.y0 ≼ int_min a.y1 b.y1) → HaveNoX a b ⊎ HaveNoY a b
    back d (inl h) y = inl h
    back d (inr k) (inl h) = inr h
    back d (inr k) (inr l) =
        let x = in-first a.x0 b.x0 a.x1 b.x1 k in
        let y = in-first a.y0 b.y0 a.y1 b.y1 l in
        let u = in-second a.x0 b.x0 a.x1 b.x1 k in
        let v = in-second a.y0 b.y0 a.y1 b.y1 l in
        absurd (d corner (
          record { from_x0 = x.0; to_x1 = x.1; from_y0 = y.0; to_y1 = y.1 },
          record { from_x0 = u.0; to_x1 = u.1; from_y0 = v.0; to_y1 = v.1 },
        ))

-- the test on two numbers
pub tested : {k n l h : ℤ} → k ≡ l → n ≡ h → IsTrue (int_lt k n) ↔ (l ≺ h)
tested {k} {n} {l} {h} e f = (λ t. less t, λ m. test m)
  where
    less : int_lt k n ≡ true → l ≺ h
    less t = grind (arith, ints, e, f)

    test : l ≺ h → int_lt k n ≡ true
    test m = grind (arith, ints, e, f)

-- two spans have no point in common exactly where the tests on them say so
pub one-apart : (a b : Span) (x : Bool) → IsTrue x ↔ HaveNoX a b → x ≡ true → IsTrue x ↔ AreDisjoint a b
one-apart a b x h t = (λ i. (disjoint a b).0 (inl (h.0 i)), λ d. t)

pub other-apart : (a b : Span) (x : Bool) → IsTrue x ↔ HaveNoX a b → x ≡ false → (y : Bool)
    → IsTrue y ↔ HaveNoY a b → IsTrue y ↔ AreDisjoint a b
other-apart a b x h f y k = (
  λ i. (disjoint a b).0 (inr (k.0 i)),
  λ d. elim ((disjoint a b).1 d) [
    | inl m ↦ let t : x ≡ true = h.1 m in absurd (cc)
    | inr m ↦ k.1 m
  ],
)

-- a point inside a polygon lies within its span
pub inside-span : (P : List Point) → IsPolygon P → (s : Span) → IsSpanOf P s → (X : Triple) → IsInside P X
    → IsInSpan s X
inside-span P polygon s h X inside = record {
  from_x0 = least_x X.x X.y X.w s.x0 (below (negsuc 0) (pos 0) s.x0
      (λ j l. corner_x0 (corner_of P j).x (corner_of P j).y s.x0 (h.x0.within j l)));
  to_x1 = greatest_x X.x X.y X.w s.x1 (over (pos 1) (pos 0) s.x1
      (λ j l. corner_x1 (corner_of P j).x (corner_of P j).y s.x1 (h.x1.within j l)));
  from_y0 = least_y X.x X.y X.w s.y0 (below (pos 0) (negsuc 0) s.y0
      (λ j l. corner_y0 (corner_of P j).x (corner_of P j).y s.y0 (h.y0.within j l)));
  to_y1 = greatest_y X.x X.y X.w s.y1 (over (pos 0) (pos 1) s.y1
      (λ j l. corner_y1 (corner_of P j).x (corner_of P j).y s.y1 (h.y1.within j l)));
}
  where
    below : (l m n : ℤ) → ((j : ℕ) → j < length P
        → l *ℤ (corner_of P j).x +ℤ m *ℤ (corner_of P j).y +ℤ n ≼ pos 0)
        → l *ℤ X.x +ℤ m *ℤ X.y +ℤ n *ℤ X.w ≼ pos 0
    below l m n k = below-inside P (convex-form P polygon.convex) polygon.least X (inside-form P X inside)
        (record { l = l; m = m; n = n }) k

    over : (l m n : ℤ) → ((j : ℕ) → j < length P
        → l *ℤ (corner_of P j).x +ℤ m *ℤ (corner_of P j).y +ℤ (pos 0 -ℤ n) ≼ pos 0)
        → l *ℤ X.x +ℤ m *ℤ X.y +ℤ (pos 0 -ℤ n) *ℤ X.w ≼ pos 0
    over l m n k = below l m (pos 0 -ℤ n) k

    corner_x0 : (x y s : ℤ) → s ≼ x → (negsuc 0 *ℤ x +ℤ pos 0 *ℤ y +ℤ s) ≼ pos 0
    corner_x0 x y s l = omega (arith, ints)

    corner_x1 : (x y s : ℤ) → x ≼ s → (pos 1 *ℤ x +ℤ pos 0 *ℤ y +ℤ (pos 0 -ℤ s)) ≼ pos 0
    corner_x1 x y s l = omega (arith, ints)

    corner_y0 : (x y s : ℤ) → s ≼ y → (pos 0 *ℤ x +ℤ negsuc 0 *ℤ y +ℤ s) ≼ pos 0
    corner_y0 x y s l = omega (arith, ints)

    corner_y1 : (x y s : ℤ) → y ≼ s → (pos 0 *ℤ x +ℤ pos 1 *ℤ y +ℤ (pos 0 -ℤ s)) ≼ pos 0
    corner_y1 x y s l = omega (arith, ints)

    minus : (s w : ℤ) → (pos 0 -ℤ s) *ℤ w ≡ pos 0 -ℤ s *ℤ w
    minus s w = simp expand (omega (arith, sums))

    least_x : (x y w s : ℤ) → negsuc 0 *ℤ x +ℤ pos 0 *ℤ y +ℤ s *ℤ w ≼ pos 0 → s *ℤ w ≼ x
    least_x x y w s l = omega (arith, ints, l)

    greatest_x : (x y w s : ℤ) → pos 1 *ℤ x +ℤ pos 0 *ℤ y +ℤ (pos 0 -ℤ s) *ℤ w ≼ pos 0 → x ≼ s *ℤ w
    greatest_x x y w s l = omega (arith, ints, l, minus s w)

    least_y : (x y w s : ℤ) → pos 0 *ℤ x +ℤ negsuc 0 *ℤ y +ℤ s *ℤ w ≼ pos 0 → s *ℤ w ≼ y
    least_y x y w s l = omega (arith, ints, l)

    greatest_y : (x y w s : ℤ) → pos 0 *ℤ x +ℤ pos 1 *ℤ y +ℤ (pos 0 -ℤ s) *ℤ w ≼ pos 0 → y ≼ s *ℤ w
    greatest_y x y w s l = omega (arith, ints, l, minus s w)

-- polygons whose spans have no common point have none
pub none-common : (P Q : List Point) → IsPolygon P → IsPolygon Q → (a b : Span) → IsSpanOf P a → IsSpanOf Q b
    → AreDisjoint a b → (X : Triple) → ¬ (IsCommon P Q X)
none-common P Q p q a b h k d X c =
    d X (inside-span P p a h X c.first, inside-span Q q b k X c.second)

-- polygons without a common point have none strictly inside both
pub none-overlap : (P Q : List Point) → ((X : Triple) → ¬ (IsCommon P Q X)) → ¬ (Overlaps P Q)
none-overlap P Q none (X, (m, n)) = none X (record { first = λ i l. weak (m i l); second = λ i l. weak (n i l) })
  where
    weak : {z : ℤ} → pos 0 ≺ z → pos 0 ≼ z
    weak l = omega (arith, sums)
