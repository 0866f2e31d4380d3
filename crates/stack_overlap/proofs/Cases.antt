-- The four cases of the common points.
use Rattle.std.proofs.Common.{arith, ◌↔◌}
use mathlib.Core.Path.{◌≡◌, sym, ap, ◌∙◌, subst}
use mathlib.Core.Logic.{◌⊎◌, inl, inr}
use Prim.Native.Nat.{ℕ, ◌≤◌}
use lib.IntN.{ℤ, pos, ◌-ℤ◌, ◌*ℤ◌, neg_ℤ}
use Rattle.stack_algebra.proofs.Integers.{sums, expand}
use Rattle.stack_algebra.proofs.Order.{◌≼◌, ◌≺◌}
use Rattle.stack_polygon.specs.declared.point.Point.{Point}
use Rattle.stack_overlap.specs.declared.types.Which.TheVariants.{First}
use Rattle.stack_overlap.specs.declared.types.Common.TheVariants.{Nothing, Corner, OnEdge, Segment}
use mathlib.Core.List.{List}
use lib.ListN.{length}
use Rattle.stack_algebra.specs.Search.{next_round}
use Rattle.stack_polygon.specs.Corners.{corner_of, IsStrictlyConvex}
use Rattle.stack_overlap.specs.Forms.{IsMark, IsOnStretch, IsBetween, square}
use Rattle.stack_polygon.specs.Plane.{Triple, IsAt}
use Rattle.stack_overlap.specs.Separation.{IsCommon, Separates}
use Rattle.stack_overlap.specs.CommonPoints.{IsCornerOf, IsBefore, IsCommonOf}
use Rattle.stack_overlap.specs.Marks.{IsStretch, IsCut}
use Rattle.stack_overlap.specs.declared.marks.Stretch.{Stretch}
use Rattle.stack_overlap.proofs.ByForms.{convex-form, outer-form, shared-form, form-shared, within-form, segment-form}
use Rattle.stack_overlap.proofs.Identities.{reversed, along-reversed, square-reversed}
use Rattle.stack_overlap.proofs.Support.{next_below}
use Rattle.stack_overlap.proofs.Edges.{edge_long, start-mark, end-mark}
use Rattle.stack_overlap.proofs.Pieces.{same-mark, empty-stretch, point-stretch, segment-stretch}
use Rattle.stack_overlap.proofs.CommonPoints.{cut}

-- what lies between two corners lies between them in the other order
pub between-reversed : (a b : Point) (X : Triple) → IsBetween a b X → IsBetween b a X
between-reversed a b X h = record {
  on_line = minus (reversed a b X) h.on_line;
  above = least (square a b) X.w (along-reversed a b X) h.below;
  below = greatest (square a b) (square b a) X.w (along-reversed a b X) (square-reversed a b) h.above;
}
  where
    minus : {z y : ℤ} → y ≡ neg_ℤ z → z ≡ pos 0 → y ≡ pos 0
    minus e h = omega (arith, sums)

    least : (s w : ℤ) {y z : ℤ} → y ≡ s *ℤ w -ℤ z → z ≼ s *ℤ w → pos 0 *ℤ w ≼ y
    least s w e l = simp expand (omega (arith, sums))

    greatest : (s r w : ℤ) {y z : ℤ} → y ≡ s *ℤ w -ℤ z → r ≡ s → pos 0 *ℤ w ≼ z → y ≼ r *ℤ w
    greatest s r w e f l = omega (arith, sums, simp expand at l, ap (λ x. x *ℤ w) f)

module _ (P Q : List Point) (convex_p : IsStrictlyConvex P) (three_p : 3 ≤ length P)
    (convex_q : IsStrictlyConvex Q) (three_q : 3 ≤ length Q) (i : ℕ) (h : Separates P i Q) where
  abbrev a : Point
  a = corner_of P i

  abbrev b : Point
  b = corner_of P (next_round (length P) i)

  long : pos 0 ≺ square a b
  long = edge_long P (convex-form P convex_p) three_p i h.is_edge

  module _ (r : Stretch) (reach : IsStretch a b Q (length Q) r) (f t : ℤ)
      (k : IsCut (square a b) r.low.place r.high.place f t) (F G : Point) (from : IsMark a b F f)
      (to : IsMark a b G t) where
    points : (X : Triple) → IsCommon P Q X ↔ IsOnStretch a b f t X
    points X = let s = cut P Q (convex-form P convex_p) three_p (convex-form Q convex_q) three_q i
        (outer-form P i Q h) r reach f t k.from_low k.from_start k.to_high k.to_end k.from_one k.to_one X in
        (λ m. s.0 (shared-form P Q X m), λ p. form-shared P Q X (s.1 p))

    pub nothing : t ≺ f → IsCommonOf P Q Nothing
    nothing l X m = empty-stretch a b long f t X l ((points X).0 m)

    lone : f ≡ t → (X : Triple) → IsCommon P Q X ↔ IsAt X F
    lone e X = let s = point-stretch a b long f F X from in (
      λ m. s.0 (subst (λ z. IsOnStretch a b f z X) (sym e) ((points X).0 m)),
      λ p. (points X).1
          (subst (λ z. IsOnStretch a b f z X) e (s.1 p)),
    )

    start_corner : f ≡ pos 0 → IsCornerOf P F
    start_corner e = (
      i,
      (
        h.is_edge,
        same-mark a b long a F f
            (subst (λ z. IsMark a b a z) (sym e) (start-mark P (convex-form P convex_p) three_p i)) from,
      ),
    )

    end_corner : f ≡ square a b → IsCornerOf P F
    end_corner e = (
      next_round (length P) i,
      (
        next_below (length P) i h.is_edge,
        same-mark a b long b F f
            (subst (λ z. IsMark a b b z) (sym e) (end-mark P (convex-form P convex_p) three_p i)) from,
      ),
    )

    low_is : f ≡ r.low.place → IsCornerOf Q F
    low_is e = subst (λ p. IsCornerOf Q p) (same-mark a b long r.low.at F f
        (subst (λ z. IsMark a b r.low.at z) (sym e) reach.low) from) reach.low_corner

    high_is : f ≡ r.high.place → IsCornerOf Q F
    high_is e = subst (λ p. IsCornerOf Q p) (same-mark a b long r.high.at F f
        (subst (λ z. IsMark a b r.high.at z) (sym e) reach.high) from) reach.high_corner

    -- a lone common point is a corner of Q
    lone_corner : f ≡ t → IsCornerOf Q F
    lone_corner e = elim k.from_one [
      | inl s ↦ low_is s
      | inr s ↦ elim k.to_one [ inl u ↦ high_is (e ∙ u) | inr u ↦ absurd (apart long (sym s ∙ e ∙ u)) ]
    ]
      where
        apart : {n : ℤ} → pos 0 ≺ n → pos 0 ≡ n → ⊥
        apart l r = omega (arith, sums)

    pub corner : f ≡ t → (f ≡ pos 0) ⊎ (f ≡ square a b) → IsCommonOf P Q (Corner F)
    corner e s = (elim s [ inl u ↦ start_corner u | inr u ↦ end_corner u ], lone_corner e, lone e)

    pub on_edge : f ≡ t → ¬ (f ≡ pos 0) → ¬ (f ≡ square a b)
        → IsCommonOf P Q (OnEdge F (record { which = First; index = i }))
    on_edge e n m = (
      (
        lone_corner e,
        (
          h.is_edge,
          within-form a b F from.on_line (subst (λ z. pos 0 ≺ z) (sym from.place) (strict f k.from_start n))
              (subst (λ z. z ≺ square a b) (sym from.place) (strict' f t (square a b) e k.to_end m)),
        ),
      ),
      lone e,
    )
      where
        strict : (f : ℤ) → pos 0 ≼ f → ¬ (f ≡ pos 0) → pos 0 ≺ f
        strict f l n = omega (arith, sums)

        strict' : (f t s : ℤ) → f ≡ t → t ≼ s → ¬ (f ≡ s) → f ≺ s
        strict' f t s e l n = omega (arith, sums)

    pub segment : f ≺ t → IsBefore F G → IsCommonOf P Q (Segment F G)
    segment l o = (
      o,
      λ X. let s = segment-stretch a b long f t F G from to X l in
          let g = segment-form F G X in (λ m. g.0 (s.0 ((points X).0 m)), λ p. (points X).1 (s.1 (g.1 p))),
    )

    pub segment_back : f ≺ t → IsBefore G F → IsCommonOf P Q (Segment G F)
    segment_back l o = (
      o,
      λ X. let s = segment-stretch a b long f t F G from to X l in
          let g = segment-form G F X in (
            λ m. g.0 (between-reversed F G X (s.0 ((points X).0 m))),
            λ p. (points X).1
                (s.1 (between-reversed G F X (g.1 p))),
          ),
    )
