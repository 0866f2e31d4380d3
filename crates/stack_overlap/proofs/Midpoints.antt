-- Midpoints and reflections, and the forms there.
use mathlib.Core.Path.{◌≡◌, refl, ◌∙◌}
use mathlib.Core.List.{[], ◌∷◌}
use lib.IntN.{ℤ, pos, ◌+ℤ◌, ◌-ℤ◌, ◌*ℤ◌}
use Rattle.stack_algebra.proofs.Ring.{num, ◌⊕◌, ◌⊖◌, ◌⊗◌, solve, nth, ring3, ring8}
use Rattle.stack_algebra.proofs.IntegerRing.{integers}
use Rattle.stack_polygon.specs.declared.point.Point.{Point}
use Rattle.stack_polygon.specs.Plane.{Triple}
use Rattle.stack_overlap.specs.Forms.{LinearForm, value, at_corner}
use Rattle.stack_overlap.specs.Ends.{IsMidpoint}
use Rattle.stack_overlap.proofs.Identities.{form, form_at, v0, v1, v2, v3, v4, v5, v6, v7, v8, v9, place}

-- the point as far from X as the corner is, on the other side
abbrev pub reflection : Triple → Point → Triple
reflection X c = record {
  x = pos 2 *ℤ X.x -ℤ c.x *ℤ X.w;
  y = pos 2 *ℤ X.y -ℤ c.y *ℤ X.w;
  w = X.w;
  positive = X.positive;
}

pub value-reflection : (f : LinearForm) (X : Triple) (c : Point) → value f (reflection X c)
    ≡ pos 2 *ℤ value f X -ℤ at_corner f c *ℤ X.w
value-reflection f X c = solve integers (nth integers (f.l ∷ f.m ∷ f.n ∷ c.x ∷ c.y ∷ X.x ∷ X.y ∷ X.w ∷ []))
    (form v0 v1 v2 (num (pos 2) ⊗ v5 ⊖ v3 ⊗ v7) (num (pos 2) ⊗ v6 ⊖ v4 ⊗ v7) v7)
    (num (pos 2) ⊗ form v0 v1 v2 v5 v6 v7 ⊖ form_at v0 v1 v2 v3 v4 ⊗ v7) refl

pub reflection-midpoint : (X : Triple) (c : Point) → IsMidpoint X (place c) (reflection X c)
reflection-midpoint X c = record { x = half X.x X.w c.x; y = half X.y X.w c.y }
  where
    half : (x w c : ℤ) → pos 2 *ℤ (pos 1 *ℤ w *ℤ x) ≡ w *ℤ (c *ℤ w +ℤ (pos 2 *ℤ x -ℤ c *ℤ w) *ℤ pos 1)
    half = ring3 integers (λ x w c. (
      num (pos 2) ⊗ (num (pos 1) ⊗ w ⊗ x),
      w ⊗
          (c ⊗ w ⊕ (num (pos 2) ⊗ x ⊖ c ⊗ w) ⊗ num (pos 1)),
    )) refl

-- a form at a midpoint
pub value-midpoint : (f : LinearForm) (X Y Z : Triple) → IsMidpoint X Y Z →
    pos 2 *ℤ (Y.w *ℤ Z.w *ℤ value f X) ≡ X.w *ℤ (value f Y *ℤ Z.w +ℤ value f Z *ℤ Y.w)
value-midpoint f X Y Z h =
    opened f.l f.m f.n X.x X.y X.w Y.w Z.w
    ∙ (λ i. f.l *ℤ h.x i +ℤ f.m *ℤ h.y i +ℤ f.n *ℤ (pos 2 *ℤ (Y.w *ℤ Z.w *ℤ X.w)))
    ∙ solve integers (nth integers (f.l ∷ f.m ∷ f.n ∷ X.w ∷ Y.x ∷ Y.y ∷ Y.w ∷ Z.x ∷ Z.y ∷ Z.w ∷ []))
    (v0 ⊗ (v3 ⊗ (v4 ⊗ v9 ⊕ v7 ⊗ v6)) ⊕ v1 ⊗ (v3 ⊗ (v5 ⊗ v9 ⊕ v8 ⊗ v6)) ⊕ v2 ⊗ (num (pos 2) ⊗ (v6 ⊗ v9 ⊗ v3)))
    (v3 ⊗ (form v0 v1 v2 v4 v5 v6 ⊗ v9 ⊕ form v0 v1 v2 v7 v8 v9 ⊗ v6))
    refl
  where
    opened : (l m n x y w v u : ℤ) → pos 2 *ℤ (v *ℤ u *ℤ (l *ℤ x +ℤ m *ℤ y +ℤ n *ℤ w))
        ≡ l *ℤ (pos 2 *ℤ (v *ℤ u *ℤ x)) +ℤ m *ℤ (pos 2 *ℤ (v *ℤ u *ℤ y)) +ℤ n *ℤ (pos 2 *ℤ (v *ℤ u *ℤ w))
    opened = ring8 integers (λ l m n x y w v u. (
      num (pos 2) ⊗ (v ⊗ u ⊗ (l ⊗ x ⊕ m ⊗ y ⊕ n ⊗ w)),
      l ⊗
          (num (pos 2) ⊗ (v ⊗ u ⊗ x)) ⊕ m ⊗ (num (pos 2) ⊗ (v ⊗ u ⊗ y)) ⊕ n ⊗ (num (pos 2) ⊗ (v ⊗ u ⊗ w)),
    )) refl
