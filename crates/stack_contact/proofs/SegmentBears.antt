-- Where two polygons with a segment in common bear.
use Rattle.std.proofs.Common.{arith, ◌↔◌}
use lib.IntN.{ℤ, pos, ◌-ℤ◌, ◌*ℤ◌}
use mathlib.Core.List.{List}
use lib.ListN.{length}
use mathlib.Core.Path.{◌≡◌, sym, ap, ◌∙◌, subst}
use mathlib.Core.Logic.{◌⊎◌, inl, inr}
use Prim.Native.Nat.{ℕ, ◌≤◌}
use Rattle.std.proofs.lemmas.Int.{ints}
use Rattle.stack_algebra.proofs.Integers.{sums, expand}
use Rattle.stack_algebra.proofs.Order.{◌≼◌, ◌≺◌, mul_pos, mul_le_right}
use Rattle.stack_polygon.specs.declared.point.Point.{Point}
use Rattle.stack_polygon.specs.Plane.{Triple, IsSamePoint, IsAt}
use Rattle.stack_polygon.specs.Corners.{corner_of, end_of}
use Rattle.stack_frame.specs.declared.frame.Frame.{Frame}
use Rattle.stack_overlap.specs.Separation.{IsCommon}
use Rattle.stack_overlap.specs.Forms.{IsMark, IsOnStretch, value, line, along, square}
use Rattle.stack_overlap.specs.Ends.{IsExtremeIn}
use Rattle.stack_overlap.proofs.ByForms.{IsConvex, IsOuter}
use Rattle.stack_overlap.proofs.Identities.{place}
use Rattle.stack_overlap.proofs.Edges.{edge_long}
use Rattle.stack_overlap.proofs.Pieces.{value-at}
use Rattle.stack_overlap.proofs.Ends.{from-end, to-end, ends}
use Rattle.stack_contact.specs.Bearings.{Bears}
use Rattle.stack_contact.proofs.AcrossLines.{IsTangent}
use Rattle.stack_contact.proofs.AlongEdge.{sense, on, left-of-edge, right-of-edge, step-parallel, parallel-step}

-- a triple that means the corner of another
pub same-corner : (X : Triple) (c : Point) → IsSamePoint X (place c) → IsAt X c
same-corner X c s = record { x = one X.x ∙ s.x; y = one X.y ∙ s.y }
  where
    one : (x : ℤ) → x ≡ x *ℤ pos 1
    one x = omega (arith, ints)

module _ (P Q : List Point) (convex_p : IsConvex P) (three_p : 3 ≤ length P) (convex_q : IsConvex Q)
    (three_q : 3 ≤ length Q) (i : ℕ) (h : IsOuter P i Q) where
  abbrev a : Point
  a = corner_of P i

  abbrev b : Point
  b = end_of P i

  long : pos 0 ≺ square a b
  long = edge_long P convex_p three_p i h.is_edge

  -- a segment bears at its two ends, along the edge
  module _ (f t : ℤ) (F G : Point) (from : IsMark a b F f) (to : IsMark a b G t) (l : f ≺ t) (points :
      (X : Triple) → IsCommon P Q X ↔ IsOnStretch a b f t X) where
    at-end : (X : Triple) (c : Point) (k : ℤ) → IsMark a b c k → IsAt X c → value (along a b) X ≡ k *ℤ X.w
    at-end X c k m e = value-at (along a b) c X e ∙ ap (λ z. z *ℤ X.w) m.place

    self : (z : ℤ) → z ≼ z
    self z = omega (arith, sums)

    weak : f ≼ t
    weak = omega (arith, sums)

    common_at : (X : Triple) (c : Point) (k : ℤ) → IsMark a b c k → f ≼ k → k ≼ t → IsAt X c → IsCommon P Q X
    common_at X c k m p q e = (points X).1 (record {
      on_line = value-at (line a b) c X e ∙ ap (λ z. z *ℤ X.w) m.on_line ∙ none X.w;
      above = subst (λ z. f *ℤ X.w ≼ z) (sym (at-end X c k m e)) (mul_le_right X.w f k (positive X.positive) p);
      below = subst (λ z. z ≼ t *ℤ X.w) (sym (at-end X c k m e)) (mul_le_right X.w k t (positive X.positive) q);
    })
      where
        none : (w : ℤ) → pos 0 *ℤ w ≡ pos 0
        none w = omega (arith, ints)

        positive : {z : ℤ} → pos 0 ≺ z → pos 0 ≼ z
        positive l = omega (arith, sums)

    not-both : (X : Triple) → IsAt X F → IsAt X G → ⊥
    not-both X p q = go f t X.w X.positive l (sym (at-end X F f from p) ∙ at-end X G t to q)
      where
        go : (f t w : ℤ) → pos 0 ≺ w → f ≺ t → f *ℤ w ≡ t *ℤ w → ⊥
        go f t w p l e = omega (arith, sums, simp expand at (mul_pos (t -ℤ f) w (omega (arith, sums)) p))

    place-at : (c : Point) → IsAt (place c) c
    place-at c = record { x = one c.x; y = one c.y }
      where
        one : (x : ℤ) → x ≡ x *ℤ pos 1
        one x = omega (arith, ints)

    pub segment-bears : (X : Triple) (u : Frame) → Bears P Q u X ↔ ((IsAt X F ⊎ IsAt X G) × IsTangent b a u)
    segment-bears X u = (there, back)
      where
        there : Bears P Q u X → (IsAt X F ⊎ IsAt X G) × IsTangent b a u
        there r = (
          ends a b long f t F G from to (IsCommon P Q) points X weak r.is_end,
          sense P Q convex_p three_p convex_q three_q i h X u
              (on P Q convex_p three_p convex_q three_q i h X r.is_end.is_in) (elim r.way [
                | inl s ↦ step-parallel P Q convex_p three_p convex_q three_q i h X s.0 u r.is_end.is_in
                    s.1.0 s.1.1 s.1.2
                | inr s ↦ absurd (not-both X (same-corner X F (s.lone.alone (place F) (common_at
                    (place F) F f from (self f) weak (place-at F))))
                    (same-corner X G (s.lone.alone (place G) (common_at (place G) G t to weak (self t)
                    (place-at G)))))
              ]) r.lowest r.earlier_right,
        )

        whole : IsCommon P Q X → IsExtremeIn (IsCommon P Q) X → (Y : Triple) → IsCommon P Q Y → ¬ (IsSamePoint X Y)
            → IsTangent b a u → Bears P Q u X
        whole m e Y my n k = record {
          is_end = e;
          way = inl (Y, (my, n, parallel-step P Q convex_p three_p convex_q three_q i h X Y u m my k));
          lowest = k.lowest;
          later_left = left-of-edge P Q convex_p three_p convex_q three_q i h X u m k;
          earlier_right = right-of-edge P Q convex_p three_p convex_q three_q i h X u m k;
        }

        back : (IsAt X F ⊎ IsAt X G) × IsTangent b a u → Bears P Q u X
        back r = elim r.0 [
          | inl e ↦ let m = common_at X F f from (self f) weak e in
              whole m (from-end a b long f t F G from to (IsCommon P Q) points X m (at-end X F f from e))
              (place G) (common_at (place G) G t to weak (self t) (place-at G)) (λ s. not-both X e
              (same-corner X G s)) r.1
          | inr e ↦ let m = common_at X G t to weak (self t) e in
              whole m (to-end a b long f t F G from to (IsCommon P Q) points X m (at-end X G t to e))
              (place F) (common_at (place F) F f from (self f) weak (place-at F)) (λ s. not-both X
              (same-corner X F s) e) r.1
        ]
