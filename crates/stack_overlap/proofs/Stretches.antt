-- Points on a line by their place along it.
use mathlib.Core.Path.{◌≡◌, sym, ap, ◌∙◌, subst}
use mathlib.Core.Logic.{◌⊎◌, inl, inr}
use native.Mathlib.Omega.{arith}
use lib.IntN.{ℤ, pos, ◌+ℤ◌, ◌-ℤ◌, ◌*ℤ◌, neg_ℤ}
use Rattle.stack_algebra.proofs.Integers.{sums, expand}
use Rattle.stack_algebra.proofs.Order.{◌≼◌, ◌≺◌, mul_nonneg, nonneg-cancel}
use Rattle.std.proofs.lemmas.Int.{ints}
use Rattle.stack_polygon.specs.declared.point.Point.{Point}
use Rattle.stack_polygon.specs.Plane.{Triple, IsAt}
use Rattle.stack_overlap.specs.Forms.{LinearForm, IsMark, IsOnStretch, value, at_corner, line, along, square}
use Rattle.stack_overlap.proofs.Identities.{by_line, by_line_at, forth, aside}
use Rattle.stack_overlap.proofs.Support.{either_side}

-- a linear function between two numbers at which it is not negative
between_numbers : (N u v w t lo hi F f₀ f₁ : ℤ) → pos 0 ≺ N → pos 0 ≺ w →
    N *ℤ F ≡ t *ℤ u +ℤ w *ℤ v → N *ℤ f₀ ≡ lo *ℤ u +ℤ v → N *ℤ f₁ ≡ hi *ℤ u +ℤ v →
    lo *ℤ w ≼ t → t ≼ hi *ℤ w → pos 0 ≼ f₀ → pos 0 ≼ f₁ → pos 0 ≼ F
between_numbers N u v w t lo hi F f₀ f₁ hN hw e e₀ e₁ h₀ h₁ p₀ p₁ = nonneg-cancel N F hN (go (either_side u))
  where
    go : (u ≼ pos 0) ⊎ (pos 0 ≼ u) → pos 0 ≼ N *ℤ F
    go (inl s) =
        let r = mul_nonneg (neg_ℤ u) (hi *ℤ w -ℤ t) (omega (arith, sums)) (omega (arith, sums)) in
        let q = mul_nonneg w (N *ℤ f₁) (omega (arith, sums)) (mul_nonneg N f₁ (omega (arith, sums)) p₁) in
        let q' : pos 0 ≼ w *ℤ (hi *ℤ u +ℤ v) = subst (λ z. pos 0 ≼ w *ℤ z) e₁ q in
        subst (λ z. pos 0 ≼ z) (sym e) (simp expand (omega (arith, sums, simp expand at r, simp expand at q')))
    go (inr s) =
        let r = mul_nonneg u (t -ℤ lo *ℤ w) s (omega (arith, sums)) in
        let q = mul_nonneg w (N *ℤ f₀) (omega (arith, sums)) (mul_nonneg N f₀ (omega (arith, sums)) p₀) in
        let q' : pos 0 ≼ w *ℤ (lo *ℤ u +ℤ v) = subst (λ z. pos 0 ≼ w *ℤ z) e₀ q in
        subst (λ z. pos 0 ≼ z) (sym e) (simp expand (omega (arith, sums, simp expand at r, simp expand at q')))

drop_line : (N F L s t u w v : ℤ) → N *ℤ F ≡ L *ℤ s +ℤ t *ℤ u +ℤ w *ℤ v → L ≡ pos 0 → N *ℤ F ≡ t *ℤ u +ℤ w *ℤ v
drop_line N F L s t u w v e h = e ∙ ap (λ z. z *ℤ s +ℤ t *ℤ u +ℤ w *ℤ v) h ∙ simp expand (omega (arith, sums))

no_first : (s t v : ℤ) → pos 0 *ℤ s +ℤ t +ℤ v ≡ t +ℤ v
no_first s t v = simp expand (omega (arith, sums))

-- a form on the line, by the place along it
pub on-line : (f : LinearForm) (a b : Point) (X : Triple) → value (line a b) X ≡ pos 0 →
    square a b *ℤ value f X ≡ value (along a b) X *ℤ forth f a b +ℤ X.w *ℤ (square a b *ℤ at_corner f a)
on-line f a b X h = drop_line (square a b) (value f X) (value (line a b) X) (aside f a b) (value (along a b) X)
    (forth f a b) X.w (square a b *ℤ at_corner f a) (by_line f a b X) h

pub at-mark : (f : LinearForm) (a b c : Point) (k : ℤ) → IsMark a b c k
    → square a b *ℤ at_corner f c ≡ k *ℤ forth f a b +ℤ square a b *ℤ at_corner f a
at-mark f a b c k h = by_line_at f a b c
    ∙ (λ i. h.on_line i *ℤ aside f a b +ℤ h.place i *ℤ forth f a b +ℤ square a b *ℤ at_corner f a)
    ∙ no_first (aside f a b) (k *ℤ forth f a b) (square a b *ℤ at_corner f a)

-- a form that is not negative at two marks is not negative between them
pub between : (f : LinearForm) (a b c d : Point) (lo hi : ℤ) (X : Triple) → pos 0 ≺ square a b → IsMark a b c lo
    → IsMark a b d hi →
    IsOnStretch a b lo hi X → pos 0 ≼ at_corner f c → pos 0 ≼ at_corner f d → pos 0 ≼ value f X
between f a b c d lo hi X long hc hd h p q =
    between_numbers (square a b) (forth f a b) (square a b *ℤ at_corner f a) X.w (value (along a b) X) lo hi
    (value f X) (at_corner f c) (at_corner f d)
    long X.positive (on-line f a b X h.on_line) (at-mark f a b c lo hc)
    (at-mark f a b d hi hd) h.above h.below p q

-- a point at a mark has the values of the mark
same_numbers : (N u v w t k F f : ℤ) → pos 0 ≺ N → N *ℤ F ≡ t *ℤ u +ℤ w *ℤ v → N *ℤ f ≡ k *ℤ u +ℤ v → t ≡ k *ℤ w
    → F ≡ f *ℤ w
same_numbers N u v w t k F f h e e' s =
    let p : N *ℤ F ≡ k *ℤ w *ℤ u +ℤ w *ℤ v = e ∙ ap (λ z. z *ℤ u +ℤ w *ℤ v) s in
    let q : N *ℤ f *ℤ w ≡ (k *ℤ u +ℤ v) *ℤ w = ap (λ z. z *ℤ w) e' in
    let r = nonneg-cancel N (F -ℤ f *ℤ w) h (simp expand
    (omega (arith, sums, simp expand at p, simp expand at q))) in
    let r' = nonneg-cancel N (f *ℤ w -ℤ F) h (simp expand
    (omega (arith, sums, simp expand at p, simp expand at q))) in
    omega (arith, sums)

pub value-mark : (f : LinearForm) (a b c : Point) (k : ℤ) (X : Triple) → pos 0 ≺ square a b → IsMark a b c k
    → value (line a b) X ≡ pos 0 →
    value (along a b) X ≡ k *ℤ X.w → value f X ≡ at_corner f c *ℤ X.w
value-mark f a b c k X long hc h e = same_numbers (square a b) (forth f a b) (square a b *ℤ at_corner f a) X.w
    (value (along a b) X) k (value f X) (at_corner f c) long (on-line f a b X h) (at-mark f a b c k hc) e

abbrev pub x_form : LinearForm
x_form = record { l = pos 1; m = pos 0; n = pos 0 }

abbrev pub y_form : LinearForm
y_form = record { l = pos 0; m = pos 1; n = pos 0 }

-- a point at a mark is the mark
pub is-mark : (a b c : Point) (k : ℤ) (X : Triple) → pos 0 ≺ square a b → IsMark a b c k
    → value (line a b) X ≡ pos 0 →
    value (along a b) X ≡ k *ℤ X.w → IsAt X c
is-mark a b c k X long hc h e = record {
  x = lone X.x X.y X.w ∙ value-mark x_form a b c k X long hc h e ∙ ap (λ z. z *ℤ X.w) (sym (lone_at c.x c.y));
  y = second X.x X.y X.w ∙ value-mark y_form a b c k X long hc h e
      ∙ ap (λ z. z *ℤ X.w) (sym (second_at c.x c.y));
}
  where
    lone : (x y w : ℤ) → x ≡ pos 1 *ℤ x +ℤ pos 0 *ℤ y +ℤ pos 0 *ℤ w
    lone x y w = omega (arith, ints)

    second : (x y w : ℤ) → y ≡ pos 0 *ℤ x +ℤ pos 1 *ℤ y +ℤ pos 0 *ℤ w
    second x y w = omega (arith, ints)

    lone_at : (x y : ℤ) → x ≡ pos 1 *ℤ x +ℤ pos 0 *ℤ y +ℤ pos 0
    lone_at x y = omega (arith, ints)

    second_at : (x y : ℤ) → y ≡ pos 0 *ℤ x +ℤ pos 1 *ℤ y +ℤ pos 0
    second_at x y = omega (arith, ints)
