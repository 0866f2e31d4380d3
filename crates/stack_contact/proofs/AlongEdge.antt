-- Along an edge that separates two polygons: which directions have them on their two sides.
use Rattle.std.proofs.Common.{arith, inl, inr}
use lib.IntN.{ℤ, pos, ◌+ℤ◌, ◌-ℤ◌, ◌*ℤ◌, neg_ℤ, *ℤ_comm}
use mathlib.Core.List.{List}
use lib.ListN.{length}
use mathlib.Core.Path.{◌≡◌, sym, ap, ◌∙◌, subst}
use Prim.Native.Nat.{ℕ, ◌<◌, ◌≤◌}
use Rattle.stack_algebra.proofs.Integers.{sums, expand}
use Rattle.stack_algebra.proofs.Order.{◌≼◌, ◌≺◌, mul_nonneg, mul_pos, nonneg-cancel}
use Rattle.stack_polygon.specs.declared.point.Point.{Point}
use Rattle.stack_polygon.specs.Plane.{Triple, IsSamePoint}
use Rattle.stack_polygon.specs.Corners.{corner_of, end_of}
use Rattle.stack_frame.specs.declared.frame.Frame.{Frame}
use Rattle.stack_frame.specs.Directions.{IsLowest}
use Rattle.stack_overlap.specs.Separation.{IsCommon}
use Rattle.stack_overlap.specs.Forms.{value, at_corner, line, along, square, edge}
use Rattle.stack_overlap.proofs.ByForms.{IsConvex, IsOuter, shared-form}
use Rattle.stack_overlap.proofs.Edges.{third, edge_long, corner_inside}
use Rattle.stack_overlap.proofs.CommonPoints.{common_on_line}
use Rattle.stack_contact.specs.Bearings.{IsParallel, IsAlong, left_along}
use Rattle.stack_contact.proofs.AcrossLines.{IsTangent, dot, cross, at-through, step-across, senses}
use Rattle.stack_frame.proofs.Senses.{lowest-long}
use Rattle.stack_contact.proofs.OnCorners.{zero-product, same-place}

module _ (P Q : List Point) (convex_p : IsConvex P) (three_p : 3 ≤ length P) (convex_q : IsConvex Q)
    (three_q : 3 ≤ length Q) (i : ℕ) (h : IsOuter P i Q) where
  abbrev a : Point
  a = corner_of P i

  abbrev b : Point
  b = end_of P i

  long : pos 0 ≺ square a b
  long = edge_long P convex_p three_p i h.is_edge

  -- the earlier body's side fixes the sense
  pub sense : (X : Triple) (u : Frame) → value (line a b) X ≡ pos 0 → IsParallel u a b → IsLowest u.tx u.ty →
      ((j : ℕ) → j < length P → left_along u X (corner_of P j) ≼ pos 0) → IsTangent b a u
  sense X u on par low right = record {
    lowest = low;
    parallel = back_par b.x b.y a.x a.y u.tx u.ty par;
    same_sense = back_dot b.x b.y a.x a.y u.tx u.ty
        (senses (b.x -ℤ a.x) (b.y -ℤ a.y) u.tx u.ty long (lowest-long u.tx u.ty low) par (away
        (go (square a b) (left_along u X (corner_of P j.0)) (dot a b u) (cross a b u) (at_corner (line a b)
        (corner_of P j.0)) X.w (value (line a b) X) _ (at-through a b (corner_of P j.0) X u) on
        (crossed par) (right j.0 j.1.0) j.1.1 X.positive long)));
  }
    where
      j : (j : ℕ) × ((j < length P) × (pos 0 ≺ at_corner (edge P i) (corner_of P j)))
      j = third P convex_p three_p i h.is_edge

      crossed : {x y : ℤ} → x ≡ y → x -ℤ y ≡ pos 0
      crossed e = omega (arith, sums)

      away : {z : ℤ} → pos 0 ≼ neg_ℤ z → z ≼ pos 0
      away l = omega (arith, sums)

      back_par : (bx by ax ay ux uy : ℤ) → (bx -ℤ ax) *ℤ uy ≡ (by -ℤ ay) *ℤ ux
          → (ax -ℤ bx) *ℤ uy ≡ (ay -ℤ by) *ℤ ux
      back_par bx by ax ay ux uy e = simp expand (omega (arith, sums, simp expand at e))

      back_dot : (bx by ax ay ux uy : ℤ) → ((bx -ℤ ax) *ℤ ux +ℤ (by -ℤ ay) *ℤ uy) ≺ pos 0
          → pos 0 ≺ ((ax -ℤ bx) *ℤ ux +ℤ (ay -ℤ by) *ℤ uy)
      back_dot bx by ax ay ux uy l = simp expand (omega (arith, sums, simp expand at l))

      go : (n A D C L w l t : ℤ) → n *ℤ A ≡ D *ℤ (L *ℤ w -ℤ l) -ℤ C *ℤ t → l ≡ pos 0 → C ≡ pos 0 → A ≼ pos 0
          → pos 0 ≺ L → pos 0 ≺ w → pos 0 ≺ n → pos 0 ≼ neg_ℤ D
      go n A D C L w l t e hl hc hA hL hw hn =
          let e' : n *ℤ A ≡ D *ℤ (L *ℤ w -ℤ pos 0) -ℤ pos 0 *ℤ t = e
          ∙ (λ i. D *ℤ (L *ℤ w -ℤ hl i) -ℤ hc i *ℤ t) in
          let m = mul_nonneg n (neg_ℤ A) (omega (arith, sums)) (omega (arith, sums)) in
          nonneg-cancel (L *ℤ w) (neg_ℤ D) (mul_pos L w hL hw) (simp expand (omega
          (arith, sums, simp expand at e', simp expand at m)))

  -- a tangent has the bodies on its two sides
  pub parallel-of : (u : Frame) → IsTangent b a u → IsParallel u a b
  parallel-of u k = go b.x b.y a.x a.y u.tx u.ty k.parallel
    where
      go : (bx by ax ay ux uy : ℤ) → (ax -ℤ bx) *ℤ uy ≡ (ay -ℤ by) *ℤ ux → (bx -ℤ ax) *ℤ uy ≡ (by -ℤ ay) *ℤ ux
      go bx by ax ay ux uy e = simp expand (omega (arith, sums, simp expand at e))

  pub side-of : (X : Triple) (u : Frame) → value (line a b) X ≡ pos 0 → IsTangent b a u → (c : Point) →
      (at_corner (line a b) c ≼ pos 0 → pos 0 ≼ left_along u X c) × (pos 0 ≼ at_corner (line a b) c
      → left_along u X c ≼ pos 0)
  side-of X u on k c = (
    λ l. nonneg-cancel (square a b) (left_along u X c) long (subst (λ z. pos 0 ≼ z) (sym value_is) (left
        (dot a b u) (at_corner (line a b) c) X.w (back_dot b.x b.y a.x a.y u.tx u.ty k.same_sense) l X.positive)),
    λ l. flip (nonneg-cancel (square a b) (neg_ℤ (left_along u X c)) long (minus (square a b)
        (left_along u X c) value_is (right (dot a b u) (at_corner (line a b) c) X.w
        (back_dot b.x b.y a.x a.y u.tx u.ty k.same_sense) l X.positive))),
  )
    where
      flip : {z : ℤ} → pos 0 ≼ neg_ℤ z → z ≼ pos 0
      flip l = omega (arith, sums)

      crossed : {x y : ℤ} → x ≡ y → x -ℤ y ≡ pos 0
      crossed e = omega (arith, sums)

      back_dot : (bx by ax ay ux uy : ℤ) → pos 0 ≺ ((ax -ℤ bx) *ℤ ux +ℤ (ay -ℤ by) *ℤ uy)
          → pos 0 ≺ neg_ℤ ((bx -ℤ ax) *ℤ ux +ℤ (by -ℤ ay) *ℤ uy)
      back_dot bx by ax ay ux uy l = simp expand (omega (arith, sums, simp expand at l))

      tidy : (D L w t : ℤ) → D *ℤ (L *ℤ w -ℤ pos 0) -ℤ pos 0 *ℤ t ≡ D *ℤ (L *ℤ w)
      tidy D L w t = simp expand (omega (arith, sums))

      value_is : square a b *ℤ left_along u X c ≡ dot a b u *ℤ (at_corner (line a b) c *ℤ X.w)
      value_is = at-through a b c X u ∙ (λ i. dot a b u *ℤ (at_corner (line a b) c *ℤ X.w -ℤ on i) -ℤ crossed
          (parallel-of u k) i *ℤ (at_corner (along a b) c *ℤ X.w -ℤ value (along a b) X))
          ∙ tidy (dot a b u) (at_corner (line a b) c) X.w (at_corner (along a b) c *ℤ X.w -ℤ value (along a b) X)

      left : (D L w : ℤ) → pos 0 ≺ neg_ℤ D → L ≼ pos 0 → pos 0 ≺ w → pos 0 ≼ D *ℤ (L *ℤ w)
      left D L w hd hl hw = let m = mul_nonneg (neg_ℤ D) (neg_ℤ L *ℤ w) (omega (arith, sums)) (mul_nonneg
          (neg_ℤ L) w (omega (arith, sums)) (omega (arith, sums))) in
          omega (arith, sums, simp expand at m)

      right : (D L w : ℤ) → pos 0 ≺ neg_ℤ D → pos 0 ≼ L → pos 0 ≺ w → pos 0 ≼ neg_ℤ (D *ℤ (L *ℤ w))
      right D L w hd hl hw = let m = mul_nonneg (neg_ℤ D) (L *ℤ w) (omega (arith, sums)) (mul_nonneg L w hl
          (omega (arith, sums))) in
          omega (arith, sums, simp expand at m)

      minus : (n A : ℤ) {z : ℤ} → n *ℤ A ≡ z → pos 0 ≼ neg_ℤ z → pos 0 ≼ n *ℤ neg_ℤ A
      minus n A e l = simp expand (omega (arith, sums, e))

  pub on : (X : Triple) → IsCommon P Q X → value (line a b) X ≡ pos 0
  on X m = common_on_line P Q convex_p three_p convex_q three_q i h X (shared-form P Q X m)

  pub left-of-edge : (X : Triple) (u : Frame) → IsCommon P Q X → IsTangent b a u → (j : ℕ) → j < length Q
      → pos 0 ≼ left_along u X (corner_of Q j)
  left-of-edge X u m k j hj = (side-of X u (on X m) k (corner_of Q j)).0 (h.apart j hj)

  pub right-of-edge : (X : Triple) (u : Frame) → IsCommon P Q X → IsTangent b a u → (j : ℕ) → j < length P
      → left_along u X (corner_of P j) ≼ pos 0
  right-of-edge X u m k j hj = (side-of X u (on X m) k (corner_of P j)).1
      (corner_inside P convex_p three_p i j h.is_edge hj)

  -- a step along the edge
  pub step-parallel : (X Y : Triple) (u : Frame) → IsCommon P Q X → IsCommon P Q Y → ¬ (IsSamePoint X Y)
      → IsAlong u X Y → IsParallel u a b
  step-parallel X Y u hx hy apart step =
      elim (zero-product (value (along a b) Y *ℤ X.w -ℤ value (along a b) X *ℤ Y.w) (cross a b u)
      (go (square a b) (value (along a b) Y *ℤ X.w -ℤ value (along a b) X *ℤ Y.w) (cross a b u) (value
      (line a b) Y) (value (line a b) X) X.w Y.w (dot a b u) _ _ (step-across a b X Y u) step (on X hx)
      (on Y hy))) [
        | inl s ↦ absurd (apart (same-place a b X Y long (on X hx) (on Y hy) (meet s)))
        | inr s ↦ meet s
      ]
    where
      meet : {x y : ℤ} → x -ℤ y ≡ pos 0 → x ≡ y
      meet e = omega (arith, sums)

      go : (n s c ly lx w v d p q : ℤ) → n *ℤ (p -ℤ q) ≡ s *ℤ c -ℤ (ly *ℤ w -ℤ lx *ℤ v) *ℤ d → p ≡ q
          → lx ≡ pos 0 → ly ≡ pos 0 → s *ℤ c ≡ pos 0
      go n s c ly lx w v d p q e f hx hy =
          let e' : n *ℤ (p -ℤ p) ≡ s *ℤ c -ℤ (pos 0 *ℤ w -ℤ pos 0 *ℤ v) *ℤ d = ap (λ z. n *ℤ (p -ℤ z)) f ∙ e
          ∙ (λ i. s *ℤ c -ℤ (hy i *ℤ w -ℤ hx i *ℤ v) *ℤ d) in
          omega (arith, sums, simp expand at e', *ℤ_comm s c)

  pub parallel-step : (X Y : Triple) (u : Frame) → IsCommon P Q X → IsCommon P Q Y → IsTangent b a u
      → IsAlong u X Y
  parallel-step X Y u hx hy k = go (square a b) (value (along a b) Y *ℤ X.w -ℤ value (along a b) X *ℤ Y.w)
      (cross a b u) (value (line a b) Y) (value (line a b) X) X.w Y.w (dot a b u) _ _ long
      (step-across a b X Y u) (crossed (parallel-of u k)) (on X hx) (on Y hy)
    where
      crossed : {x y : ℤ} → x ≡ y → x -ℤ y ≡ pos 0
      crossed e = omega (arith, sums)

      meet : {x y : ℤ} → pos 0 ≼ x -ℤ y → pos 0 ≼ y -ℤ x → x ≡ y
      meet e f = omega (arith, sums)

      go : (n s c ly lx w v d p q : ℤ) → pos 0 ≺ n → n *ℤ (p -ℤ q) ≡ s *ℤ c -ℤ (ly *ℤ w -ℤ lx *ℤ v) *ℤ d
          → c ≡ pos 0 → lx ≡ pos 0 → ly ≡ pos 0 → p ≡ q
      go n s c ly lx w v d p q hn e f hx hy =
          let e' : n *ℤ (p -ℤ q) ≡ s *ℤ pos 0 -ℤ (pos 0 *ℤ w -ℤ pos 0 *ℤ v) *ℤ d = e
          ∙ (λ i. s *ℤ f i -ℤ (hy i *ℤ w -ℤ hx i *ℤ v) *ℤ d) in
          meet (nonneg-cancel n (p -ℤ q) hn (simp expand (omega (arith, sums, simp expand at e'))))
          (nonneg-cancel n (q -ℤ p) hn (simp expand (omega (arith, sums, simp expand at e'))))
