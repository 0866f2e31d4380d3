-- What the code for the common points may answer.
use mathlib.Core.Path.{◌≡◌, refl, sym, ap, ◌∙◌, subst}
use mathlib.Core.Logic.{◌⊎◌, inl, inr}
use Prim.Native.Nat.{ℕ, zero, suc}
use native.Mathlib.Omega.{arith}
use Rattle.std.proofs.Common.{Bool, false, IsTrue, ◌↔◌}
use Rattle.std.proofs.lemmas.Bool.{false≢true}
use lib.IntN.{ℤ, pos, negsuc, ◌-ℤ◌}
use Rattle.stack_algebra.proofs.Integers.{sums}
use Rattle.stack_algebra.proofs.Order.{◌≺◌}
use Rattle.std.proofs.lemmas.Int.{ints}
use Rattle.stack_polygon.specs.declared.point.Point.{Point}
use Rattle.stack_overlap.specs.declared.types.Which.TheVariants.{First}
use Rattle.stack_overlap.specs.declared.types.Common.TheVariants.{Nothing, Corner, OnEdge, Segment}
use Rattle.stack_overlap.specs.declared.marks.Stretch.{Stretch}
use mathlib.Core.List.{List}
use lib.ListN.{length}
use Rattle.stack_algebra.specs.Search.{next_round}
use Rattle.stack_polygon.specs.Corners.{corner_of}
use Rattle.stack_polygon.specs.Limits.{IsPolygon}
use Rattle.stack_overlap.specs.Forms.{at_corner, along, square}
use Rattle.stack_overlap.specs.Separation.{Separates}
use Rattle.stack_overlap.specs.CommonPoints.{IsBefore, IsCommonOf}
use Rattle.stack_overlap.specs.Marks.{IsStretch, NoneOnLine, IsClipped}
use Rattle.stack_overlap.proofs.ByForms.{convex-form, outer-form, shared-form}
use Rattle.stack_overlap.proofs.Identities.{along-end}
use Rattle.stack_overlap.proofs.CommonPoints.{nothing-common}
use Rattle.stack_overlap.proofs.Cases.{nothing, corner, on_edge, segment, segment_back}

-- what a test decides isn't so where the test is false
pub untrue : {P : Type 0} (b : Bool) → IsTrue b ↔ P → b ≡ false → ¬ P
untrue b h e p = false≢true (sym e ∙ h.1 p)

three-ways : (x y : ℤ) → (x ≺ y) ⊎ ((x ≡ y) ⊎ (y ≺ x))
three-ways x y = go (x -ℤ y) refl
  where
    go : (z : ℤ) → x -ℤ y ≡ z → (x ≺ y) ⊎ ((x ≡ y) ⊎ (y ≺ x))
    go (pos zero) e = inr (inl (omega (arith, sums)))
    go (pos (suc n)) e = inr (inr (omega (arith, ints, e)))
    go (negsuc n) e = inl (omega (arith, ints, e))

-- of two corners one is before the other, or they are one
other-before : (c d : Point) → ¬ (IsBefore c d) → ¬ (c ≡ d) → IsBefore d c
other-before c d n m = elim (three-ways c.x d.x) [
  | inl l ↦ absurd (n (inl l))
  | inr s ↦ elim s [
    | inl e ↦ elim (three-ways c.y d.y) [
      | inl l ↦ absurd (n (inr (e, l)))
      | inr t ↦ elim t [ inl f ↦ absurd (m (λ i. record { x = e i; y = f i })) | inr l ↦ inr (sym e, l) ]
    ]
    | inr l ↦ inl l
  ]
]

module _ (P Q : List Point) (p : IsPolygon P) (q : IsPolygon Q) (i : ℕ) (h : Separates P i Q)
    (a b : Point) {k n : ℕ} (ea : a ≡ corner_of P i) (eb : b ≡ corner_of P k) (ek : k ≡ next_round n i)
    (en : n ≡ length P) where
  at-edge : (R : Point → Point → Type 0) → R a b → R (corner_of P i) (corner_of P (next_round (length P) i))
  at-edge R r = subst (λ y. R (corner_of P i) y)
      (eb ∙ ap (corner_of P) (ek ∙ ap (λ n. next_round n i) en)) (subst (λ x. R x b) ea r)

  pub none-answer : NoneOnLine a b Q (length Q) → IsCommonOf P Q Nothing
  none-answer n X m = nothing-common P Q (convex-form P p.convex) p.least (convex-form Q q.convex) q.least i
      (outer-form P i Q h)
      (at-edge (λ x y. NoneOnLine x y Q (length Q)) n) X (shared-form P Q X m)

  module _ (r s : Stretch) (reach : IsStretch a b Q (length Q) r) (clip : IsClipped a b r s) where
    reach' : IsStretch (corner_of P i) (corner_of P (next_round (length P) i)) Q (length Q) r
    reach' = at-edge (λ x y. IsStretch x y Q (length Q) r) reach

    clip' : IsClipped (corner_of P i) (corner_of P (next_round (length P) i)) r s
    clip' = at-edge (λ x y. IsClipped x y r s) clip

    pub past-answer : s.high.place ≺ s.low.place → IsCommonOf P Q Nothing
    past-answer l =
        nothing P Q p.convex p.least q.convex q.least i h r reach' s.low.place s.high.place clip'.cut s.low.at
        s.high.at clip'.from clip'.to l

    pub segment-answer : s.low.place ≺ s.high.place → IsBefore s.low.at s.high.at
        → IsCommonOf P Q (Segment s.low.at s.high.at)
    segment-answer l o =
        segment P Q p.convex p.least q.convex q.least i h r reach' s.low.place s.high.place clip'.cut s.low.at
        s.high.at clip'.from clip'.to l o

    pub back-answer : s.low.place ≺ s.high.place → ¬ (IsBefore s.low.at s.high.at)
        → IsCommonOf P Q (Segment s.high.at s.low.at)
    back-answer l n =
        segment_back P Q p.convex p.least q.convex q.least i h r reach' s.low.place s.high.place clip'.cut s.low.at
        s.high.at clip'.from clip'.to l
        (other-before s.low.at s.high.at n (λ e. apart l
        (sym clip'.from.place ∙ ap (λ c. at_corner (along (corner_of P i)
        (corner_of P (next_round (length P) i))) c) e ∙ clip'.to.place)))
      where
        apart : {x y : ℤ} → x ≺ y → x ≡ y → ⊥
        apart l e = omega (arith, sums)

    same : ¬ (s.high.place ≺ s.low.place) → ¬ (s.low.place ≺ s.high.place) → s.low.place ≡ s.high.place
    same n m = elim (three-ways s.low.place s.high.place) [
      | inl l ↦ absurd (m l)
      | inr t ↦
          elim t [ inl e ↦ e | inr l ↦ absurd (n l) ]
    ]

    end-is : at_corner (along a b) b ≡ square (corner_of P i) (corner_of P (next_round (length P) i))
    end-is = at-edge (λ x y. at_corner (along a b) b ≡ square x y) (along-end a b)

    pub corner-answer : ¬ (s.high.place ≺ s.low.place) → ¬ (s.low.place ≺ s.high.place)
        → (s.low.place ≡ pos 0) ⊎ (s.low.place ≡ at_corner (along a b) b) → IsCommonOf P Q (Corner s.low.at)
    corner-answer n m e =
        corner P Q p.convex p.least q.convex q.least i h r reach' s.low.place s.high.place clip'.cut s.low.at
        s.high.at clip'.from clip'.to (same n m)
        (elim e [ inl z ↦ inl z | inr z ↦ inr (z ∙ end-is) ])

    pub on-answer : ¬ (s.high.place ≺ s.low.place) → ¬ (s.low.place ≺ s.high.place) → ¬ (s.low.place ≡ pos 0)
        → ¬ (s.low.place ≡ at_corner (along a b) b) → IsCommonOf P Q
        (OnEdge s.low.at (record { which = First; index = i }))
    on-answer n m e f =
        on_edge P Q p.convex p.least q.convex q.least i h r reach' s.low.place s.high.place clip'.cut s.low.at
        s.high.at clip'.from clip'.to (same n m) e (λ z. f (z ∙ sym end-is))
