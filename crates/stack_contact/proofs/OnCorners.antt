-- Points at corners and on edges.
use native.Mathlib.Omega.{arith}
use lib.IntN.{ℤ, pos, negsuc, ◌+ℤ◌, ◌-ℤ◌, ◌*ℤ◌, *ℤ_comm}
use mathlib.Core.List.{List}
use lib.ListN.{length}
use mathlib.Core.Path.{◌≡◌, refl, sym, ap, ◌∙◌, subst}
use mathlib.Core.Logic.{◌⊎◌, inl, inr}
use Prim.Native.Nat.{ℕ, zero, suc, ◌<◌, ◌≤◌}
use Rattle.std.proofs.lemmas.Int.{ints}
use Rattle.stack_algebra.specs.Search.{next_round}
use Rattle.stack_algebra.proofs.Integers.{sums, expand}
use Rattle.stack_algebra.proofs.Order.{◌≼◌, ◌≺◌}
use Rattle.stack_polygon.specs.declared.point.Point.{Point}
use Rattle.stack_polygon.specs.Plane.{Triple, IsSamePoint, IsAt}
use Rattle.stack_polygon.specs.Corners.{corner_of, end_of}
use Rattle.stack_overlap.specs.Forms.{LinearForm, IsBetween, value, at_corner, line, along, square}
use Rattle.stack_overlap.specs.CommonPoints.{IsCornerOf, IsStrictlyBetween, IsWithinEdge}
use Rattle.stack_overlap.proofs.ByForms.{IsConvex, side-form, advance-form, back-advance}
use Rattle.stack_overlap.proofs.Identities.{along-start, along-end}
use Rattle.stack_overlap.proofs.Stretches.{is-mark, on-line, x_form, y_form}
use Rattle.stack_overlap.proofs.Support.{next_below}
use Rattle.stack_overlap.proofs.Edges.{edge_long, on-edge, start-mark, end-mark}
use Rattle.stack_algebra.proofs.CrossProducts.{cancel}
use Rattle.stack_contact.specs.OnOutlines.{IsCorner}
use Rattle.stack_contact.proofs.AcrossLines.{flat}

-- strictly between two corners, by forms
pub record IsStrictlyOn (a b c : Point) : Type 0 where
  pub on_line : at_corner (line a b) c ≡ pos 0
  pub after : pos 0 ≺ at_corner (along a b) c
  pub before : at_corner (along a b) c ≺ square a b

pub form-within : (a b c : Point) → IsStrictlyBetween a b c → IsStrictlyOn a b c
form-within a b c h = record {
  on_line = sym (side-form a b c) ∙ h.on_line;
  after = subst (λ z. pos 0 ≺ z) (advance-form a b c) h.from_start;
  before = less (back-advance a b c) h.from_end;
}
  where
    less : {y s z : ℤ} → y ≡ s -ℤ z → pos 0 ≺ y → z ≺ s
    less e l = omega (arith, sums)

pub zero-product : (s c : ℤ) → s *ℤ c ≡ pos 0 → (s ≡ pos 0) ⊎ (c ≡ pos 0)
zero-product (pos zero) c e = inl refl
zero-product s (pos zero) e = inr refl
zero-product (pos (suc s)) (pos (suc c)) e = absurd (omega (arith, ints, e))
zero-product (pos (suc s)) (negsuc c) e = absurd (omega (arith, ints, e))
zero-product (negsuc s) (pos (suc c)) e = absurd (omega (arith, ints, e))
zero-product (negsuc s) (negsuc c) e = absurd (omega (arith, ints, e))

-- two points of a line with one place along it
pub same-place : (a b : Point) (X Y : Triple) → pos 0 ≺ square a b → value (line a b) X ≡ pos 0
    → value (line a b) Y ≡ pos 0 →
    value (along a b) Y *ℤ X.w ≡ value (along a b) X *ℤ Y.w → IsSamePoint X Y
same-place a b X Y long hx hy e = record {
  x = sym (ap (λ z. z *ℤ Y.w) (first X.x X.y X.w)) ∙ go (square a b) (value x_form X) (value x_form Y) X.w Y.w
      (value (along a b) X) (value (along a b) Y) _ _ long (on-line x_form a b X hx)
      (on-line x_form a b Y hy) e ∙ ap (λ z. z *ℤ X.w) (first Y.x Y.y Y.w);
  y = sym (ap (λ z. z *ℤ Y.w) (second X.x X.y X.w)) ∙ go (square a b) (value y_form X)
      (value y_form Y) X.w Y.w (value (along a b) X) (value (along a b) Y) _ _ long (on-line y_form a b X hx)
      (on-line y_form a b Y hy) e ∙ ap (λ z. z *ℤ X.w) (second Y.x Y.y Y.w);
}
  where
    first : (x y w : ℤ) → pos 1 *ℤ x +ℤ pos 0 *ℤ y +ℤ pos 0 *ℤ w ≡ x
    first x y w = omega (arith, ints)

    second : (x y w : ℤ) → pos 0 *ℤ x +ℤ pos 1 *ℤ y +ℤ pos 0 *ℤ w ≡ y
    second x y w = omega (arith, ints)

    go : (n x y w v s t u k : ℤ) → pos 0 ≺ n → n *ℤ x ≡ s *ℤ u +ℤ w *ℤ k → n *ℤ y ≡ t *ℤ u +ℤ v *ℤ k
        → t *ℤ w ≡ s *ℤ v → x *ℤ v ≡ y *ℤ w
    go n x y w v s t u k long e f g =
        let e' = ap (λ z. z *ℤ v) e in
        let f' = ap (λ z. z *ℤ w) f in
        let g' = ap (λ z. z *ℤ u) g in
        cancel n (x *ℤ v) (y *ℤ w) long (omega
        (arith, sums, simp expand at e', simp expand at f', simp expand at g'))

-- a corner at a corner's place
pub corner-at : (R : List Point) (X : Triple) (c : Point) → IsAt X c → IsCornerOf R c → IsCorner R X
corner-at R X c h (j, (hj, e)) = (j, (hj, subst (λ p. IsAt X p) (sym e) h))

pub at-corner : (R : List Point) (X : Triple) (c : Point) → IsAt X c → IsCorner R X → IsCornerOf R c
at-corner R X c h (j, (hj, k)) = (
  j,
  (hj, λ i. record { x = go X.w X.positive k.x h.x i; y = go X.w X.positive k.y h.y i }),
)
  where
    go : {x c d : ℤ} (w : ℤ) → pos 0 ≺ w → x ≡ c *ℤ w → x ≡ d *ℤ w → c ≡ d
    go {c = c} {d = d} w p e f = cancel w c d p (*ℤ_comm w c ∙ sym e ∙ f ∙ *ℤ_comm d w)

-- a point strictly within an edge is no corner
pub within-no-corner : (R : List Point) (convex : IsConvex R) (three : 3 ≤ length R) (k : ℕ) (c : Point)
    → IsWithinEdge R k c → IsCornerOf R c → ⊥
within-no-corner R convex three k c (hk, n) (j, (hj, e)) = let w = form-within (corner_of R k)
    (end_of R k) c n in elim (on-edge R convex three k j hk hj (none (ap (at_corner (line (corner_of R k)
    (end_of R k))) e ∙ w.on_line))) [
      | inl s ↦ start (sym (ap (λ p. at_corner (along (corner_of R k) (end_of R k)) p) (sym (ap (corner_of R) s) ∙ e))
          ∙ along-start (corner_of R k) (end_of R k)) w.after
      | inr s ↦ end (sym (ap (λ p. at_corner (along (corner_of R k) (end_of R k)) p) (sym (ap (corner_of R) s) ∙ e))
          ∙ along-end (corner_of R k) (end_of R k)) w.before
    ]
  where
    none : {z : ℤ} → z ≡ pos 0 → z ≼ pos 0
    none e = omega (arith, sums)

    start : {z : ℤ} → z ≡ pos 0 → pos 0 ≺ z → ⊥
    start e l = omega (arith, sums)

    end : {z s : ℤ} → z ≡ s → z ≺ s → ⊥
    end e l = omega (arith, sums)

-- a form from 0 up at the corners that is 0 at a point of an edge that is no corner is 0 along the edge
pub flat-edge : (R : List Point) (convex : IsConvex R) (three : 3 ≤ length R) (k : ℕ) → k < length R
    → (X : Triple) → IsBetween (corner_of R k) (end_of R k) X → ¬ (IsCorner R X) →
    (g : LinearForm) → ((j : ℕ) → j < length R → pos 0 ≼ at_corner g (corner_of R j)) → value g X ≡ pos 0
    → (at_corner g (corner_of R k) ≡ pos 0) × (at_corner g (end_of R k) ≡ pos 0)
flat-edge R convex three k hk X m alone g hg e =
    flat g c d X long m.on_line (after X.w m.above (λ s. alone (
      k,
      (
        hk,
        is-mark c d c (pos 0) X long
            (start-mark R convex three k) m.on_line (s ∙ none X.w),
      ),
    )))
    (before m.below (λ s. alone (
      next_round (length R) k,
      (
        next_below (length R) k hk,
        is-mark c d d
            (square c d) X long (end-mark R convex three k) m.on_line s,
      ),
    )))
    (hg k hk) (hg (next_round (length R) k) (next_below (length R) k hk)) e
  where
    c : Point
    c = corner_of R k

    d : Point
    d = end_of R k

    long : pos 0 ≺ square c d
    long = edge_long R convex three k hk

    none : (w : ℤ) → pos 0 ≡ pos 0 *ℤ w
    none w = omega (arith, ints)

    after : {z : ℤ} (w : ℤ) → pos 0 *ℤ w ≼ z → ¬ (z ≡ pos 0) → pos 0 ≺ z
    after w l n = omega (arith, sums, simp expand at l)

    before : {z s : ℤ} → z ≼ s → ¬ (z ≡ s) → z ≺ s
    before l n = omega (arith, sums)
