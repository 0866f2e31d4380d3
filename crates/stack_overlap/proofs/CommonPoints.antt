-- The common points of two outlines that an edge separates.
use Rattle.std.proofs.Common.{arith, ◌↔◌}
use mathlib.Core.Path.{◌≡◌, sym, subst}
use mathlib.Core.Logic.{◌⊎◌, inl, inr}
use Prim.Native.Nat.{ℕ, ◌<◌, ◌≤◌}
use lib.IntN.{ℤ, pos, ◌+ℤ◌, ◌-ℤ◌, ◌*ℤ◌, neg_ℤ}
use Rattle.stack_algebra.proofs.Integers.{sums, expand}
use Rattle.stack_algebra.proofs.Order.{◌≼◌, ◌≺◌, mul_le_right}
use Rattle.stack_polygon.specs.declared.point.Point.{Point}
use mathlib.Core.List.{List}
use lib.ListN.{length}
use Rattle.stack_algebra.specs.Search.{next_round}
use Rattle.stack_polygon.specs.Corners.{corner_of}
use Rattle.stack_polygon.specs.Plane.{Triple}
use Rattle.stack_overlap.specs.Forms.{LinearForm, IsOnStretch, IsBetween, value, at_corner, line, along, square, edge}
use Rattle.stack_overlap.proofs.ByForms.{IsConvex, IsShared, IsOuter}
use Rattle.stack_overlap.specs.CommonPoints.{IsCornerOf}
use Rattle.stack_overlap.specs.Marks.{IsStretch}
use Rattle.stack_overlap.specs.declared.marks.Stretch.{Stretch}
use Rattle.stack_overlap.proofs.Identities.{less, opposite, value-less, at-less, value-opposite, at-opposite}
use Rattle.stack_overlap.proofs.Stretches.{between}
use Rattle.stack_overlap.proofs.Support.{support}
use Rattle.stack_overlap.proofs.Edges.{corner_inside, edge_long, on_edge, edge_inside}

abbrev constant : LinearForm
constant = record { l = pos 0; m = pos 0; n = pos 1 }

module _ (P Q : List Point) (convex_p : IsConvex P) (three_p : 3 ≤ length P) (convex_q : IsConvex Q)
    (three_q : 3 ≤ length Q) (i : ℕ) (h : IsOuter P i Q) where
  abbrev pub a : Point
  a = corner_of P i

  abbrev pub b : Point
  b = corner_of P (next_round (length P) i)

  pub common_on_line : (X : Triple) → IsShared P Q X → value (line a b) X ≡ pos 0
  common_on_line X m = both (m.first i h.is_edge) (support Q convex_q three_q X m.second (line a b)
      (line a b) h.apart (λ j hj e. none e) (m.first i h.is_edge))
    where
      none : {z : ℤ} → z ≡ pos 0 → z ≼ pos 0
      none e = omega (arith, sums)

      both : {z : ℤ} → pos 0 ≼ z → z ≼ pos 0 → z ≡ pos 0
      both l m = omega (arith, sums)

  -- with no corner on the line nothing is common
  pub nothing-common : ((j : ℕ) → j < length Q → at_corner (line a b) (corner_of Q j) ≡ pos 0 → ⊥) → (X : Triple)
      → ¬ (IsShared P Q X)
  nothing-common none X m = weight X.x X.y X.w X.positive
      (support Q convex_q three_q X m.second (line a b) constant h.apart (λ j hj e. absurd (none j hj e))
      (m.first i h.is_edge))
    where
      weight : (x y w : ℤ) → pos 0 ≺ w → (pos 0 *ℤ x +ℤ pos 0 *ℤ y +ℤ pos 1 *ℤ w) ≼ pos 0 → ⊥
      weight x y w p l = omega (arith, sums, simp expand at l)

  module _ (r : Stretch) (reach : IsStretch a b Q (length Q) r) where
    abbrev lo : ℤ
    lo = r.low.place

    abbrev hi : ℤ
    hi = r.high.place

    abbrev c : Point
    c = r.low.at

    abbrev d : Point
    d = r.high.at

    -- the common points are on the edge, between the two corners
    pub common_between : (X : Triple) → IsShared P Q X → IsOnStretch a b lo hi X × IsBetween a b X
    common_between X m = (
      record {
        on_line = common_on_line X m;
        above = least (value (along a b) X) lo X.w (value-opposite (less (along a b) lo) X)
            (value-less (along a b) lo X)
            (support Q convex_q three_q X m.second (line a b) (opposite (less (along a b) lo)) h.apart
            (λ j hj e. low_at (at-opposite (less (along a b) lo) (corner_of Q j))
            (at-less (along a b) lo (corner_of Q j)) (reach.bounds j hj e).0)
            (m.first i h.is_edge));
        below = greatest (value (along a b) X) hi X.w (value-less (along a b) hi X)
            (support Q convex_q three_q X m.second (line a b) (less (along a b) hi) h.apart
            (λ j hj e. high_at (at-less (along a b) hi (corner_of Q j)) (reach.bounds j hj e).1)
            (m.first i h.is_edge));
      },
      on_edge P convex_p three_p i h.is_edge X m.first (common_on_line X m),
    )
      where
        least : (z s w : ℤ) {y x : ℤ} → y ≡ neg_ℤ x → x ≡ z -ℤ s *ℤ w → y ≼ pos 0 → s *ℤ w ≼ z
        least z s w e f l = omega (arith, sums)

        greatest : (z s w : ℤ) {y : ℤ} → y ≡ z -ℤ s *ℤ w → y ≼ pos 0 → z ≼ s *ℤ w
        greatest z s w e l = omega (arith, sums)

        low_at : {z s y x : ℤ} → y ≡ neg_ℤ x → x ≡ z -ℤ s → s ≼ z → y ≼ pos 0
        low_at e f l = omega (arith, sums)

        high_at : {z s y : ℤ} → y ≡ z -ℤ s → z ≼ s → y ≼ pos 0
        high_at e l = omega (arith, sums)

    -- all points between the two corners, on the edge, are common
    pub between_common : (X : Triple) → IsOnStretch a b lo hi X → IsBetween a b X → IsShared P Q X
    between_common X s t = record {
      first = edge_inside P convex_p three_p i h.is_edge X t;
      second = λ k hk. between (edge Q k) a b c d lo hi X
          (edge_long P convex_p three_p i h.is_edge) reach.low reach.high s
          (corner k hk reach.low_corner) (corner k hk reach.high_corner);
    }
      where
        corner : {e : Point} (k : ℕ) → k < length Q → IsCornerOf Q e → pos 0 ≼ at_corner (edge Q k) e
        corner k hk (j, (hj, e)) = subst (λ p. pos 0 ≼ at_corner (edge Q k) p) e
            (corner_inside Q convex_q three_q k j hk hj)

    -- the part between the later of the two beginnings and the earlier of the two ends
    pub cut : (f t : ℤ) → lo ≼ f → pos 0 ≼ f → t ≼ hi → t ≼ square a b → (f ≡ lo) ⊎ (f ≡ pos 0)
        → (t ≡ hi) ⊎ (t ≡ square a b) →
        (X : Triple) → IsShared P Q X ↔ IsOnStretch a b f t X
    cut f t h₁ h₂ h₃ h₄ e₁ e₂ X = (
      λ m. let r = common_between X m in record {
        on_line = r.0.on_line;
        above = elim e₁ [
          | inl e ↦ subst (λ k. k *ℤ X.w ≼ value (along a b) X) (sym e) r.0.above
          | inr e ↦ subst
              (λ k. k *ℤ X.w ≼ value (along a b) X) (sym e) r.1.above
        ];
        below = elim e₂ [
          | inl e ↦ subst (λ k. value (along a b) X ≼ k *ℤ X.w) (sym e) r.0.below
          | inr e ↦ subst
              (λ k. value (along a b) X ≼ k *ℤ X.w) (sym e) r.1.below
        ];
      },
      λ s. between_common X
          (record {
            on_line = s.on_line;
            above = up lo f X.w
                (value (along a b) X) X.positive h₁ s.above;
            below =
                down t hi X.w (value (along a b) X) X.positive h₃ s.below;
          })
          (record {
            on_line = s.on_line;
            above = up (pos 0) f X.w
                (value (along a b) X) X.positive h₂ s.above;
            below =
                down t (square a b) X.w (value (along a b) X) X.positive h₄ s.below;
          }),
    )
      where
        up : (k f w z : ℤ) → pos 0 ≺ w → k ≼ f → f *ℤ w ≼ z → k *ℤ w ≼ z
        up k f w z p l m = omega (arith, sums, mul_le_right w k f (omega (arith, sums)) l)

        down : (t k w z : ℤ) → pos 0 ≺ w → t ≼ k → z ≼ t *ℤ w → z ≼ k *ℤ w
        down t k w z p l m = omega (arith, sums, mul_le_right w t k (omega (arith, sums)) l)
