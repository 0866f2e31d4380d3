-- Directions and steps, along a line and across it.
use native.Mathlib.Omega.{arith}
use lib.IntN.{ℤ, pos, negsuc, ◌+ℤ◌, ◌-ℤ◌, ◌*ℤ◌, neg_ℤ}
use mathlib.Core.List.{[], ◌∷◌}
use mathlib.Core.Path.{◌≡◌, refl, sym, ap, ◌∙◌}
use Prim.Native.Nat.{ℕ, zero, suc}
use Rattle.std.proofs.lemmas.Int.{ints}
use Rattle.stack_algebra.proofs.Integers.{sums, expand}
use Rattle.stack_algebra.proofs.Order.{◌≼◌, ◌≺◌, mul_nonneg, mul_pos, nonneg-cancel}
use Rattle.stack_polygon.specs.declared.point.Point.{Point}
use Rattle.stack_polygon.specs.Plane.{Triple}
use Rattle.stack_frame.specs.declared.frame.Frame.{Frame}
use Rattle.stack_frame.specs.Directions.{IsLowest}
use Rattle.stack_overlap.specs.Forms.{LinearForm, value, at_corner, line, along, square}
use Rattle.stack_overlap.proofs.Identities.{by_line, forth}
use Rattle.stack_algebra.proofs.CrossProducts.{cancel}
use Rattle.stack_contact.specs.Bearings.{IsParallel, left_along}
use Rattle.stack_algebra.proofs.Ring.{Exp, var, ◌⊕◌, ◌⊖◌, ◌⊗◌, solve, nth}
use Rattle.stack_algebra.proofs.IntegerRing.{integers}

-- t is the direction from a to b in lowest terms
pub record IsTangent (a b : Point) (t : Frame) : Type 0 where
  pub lowest : IsLowest t.tx t.ty
  pub parallel : IsParallel t a b
  pub same_sense : pos 0 ≺ (b.x -ℤ a.x) *ℤ t.tx +ℤ (b.y -ℤ a.y) *ℤ t.ty

-- the step from a to b, along t and across it
abbrev pub dot : Point → Point → Frame → ℤ
dot a b t = (b.x -ℤ a.x) *ℤ t.tx +ℤ (b.y -ℤ a.y) *ℤ t.ty

abbrev pub cross : Point → Point → Frame → ℤ
cross a b t = (b.x -ℤ a.x) *ℤ t.ty -ℤ (b.y -ℤ a.y) *ℤ t.tx

abbrev v : ℕ → Exp
v k = var k

-- the line through X along t, at a corner
pub at-through : (a b c : Point) (X : Triple) (t : Frame) →
    square a b *ℤ left_along t X c ≡ dot a b t *ℤ (at_corner (line a b) c *ℤ X.w -ℤ value
    (line a b) X) -ℤ cross a b t *ℤ (at_corner (along a b) c *ℤ X.w -ℤ value (along a b) X)
at-through a b c X t = solve integers (nth integers
    (a.x ∷ a.y ∷ b.x ∷ b.y ∷ c.x ∷ c.y ∷ X.x ∷ X.y ∷ X.w ∷ t.tx ∷ t.ty ∷ []))
    ((dx ⊗ dx ⊕ dy ⊗ dy) ⊗ (v 9 ⊗ (v 5 ⊗ v 8 ⊖ v 7) ⊖ v 10 ⊗ (v 4 ⊗ v 8 ⊖ v 6)))
    ((dx ⊗ v 9 ⊕ dy ⊗ v 10) ⊗ (((v 1 ⊖ v 3) ⊗ v 4 ⊕ dx ⊗ v 5 ⊕ (v 0 ⊗ v 3 ⊖ v 2 ⊗ v 1)) ⊗ v 8 ⊖
    ((v 1 ⊖ v 3) ⊗ v 6 ⊕ dx ⊗ v 7 ⊕ (v 0 ⊗ v 3 ⊖ v 2 ⊗ v 1) ⊗ v 8))
    ⊖ (dx ⊗ v 10 ⊖ dy ⊗ v 9) ⊗ ((dx ⊗ v 4 ⊕ dy ⊗ v 5 ⊕ ((v 0 ⊖ v 2) ⊗ v 0 ⊕ (v 1 ⊖ v 3) ⊗ v 1)) ⊗ v 8 ⊖
    (dx ⊗ v 6 ⊕ dy ⊗ v 7 ⊕ ((v 0 ⊖ v 2) ⊗ v 0 ⊕ (v 1 ⊖ v 3) ⊗ v 1) ⊗ v 8)))
    refl
  where
    dx : Exp
    dx = v 2 ⊖ v 0

    dy : Exp
    dy = v 3 ⊖ v 1

-- a step between two points, across t
pub step-across : (a b : Point) (X Y : Triple) (t : Frame) →
    square a b *ℤ ((Y.x *ℤ X.w -ℤ X.x *ℤ Y.w) *ℤ t.ty -ℤ (Y.y *ℤ X.w -ℤ X.y *ℤ Y.w) *ℤ t.tx)
    ≡ (value (along a b) Y *ℤ X.w -ℤ value (along a b) X *ℤ Y.w) *ℤ cross a b t -ℤ (value
    (line a b) Y *ℤ X.w -ℤ value (line a b) X *ℤ Y.w) *ℤ dot a b t
step-across a b X Y t = solve integers (nth integers
    (a.x ∷ a.y ∷ b.x ∷ b.y ∷ X.x ∷ X.y ∷ X.w ∷ Y.x ∷ Y.y ∷ Y.w ∷ t.tx ∷ t.ty ∷ []))
    ((dx ⊗ dx ⊕ dy ⊗ dy) ⊗ ((v 7 ⊗ v 6 ⊖ v 4 ⊗ v 9) ⊗ v 11 ⊖ (v 8 ⊗ v 6 ⊖ v 5 ⊗ v 9) ⊗ v 10))
    ((along_v 7 8 9 ⊗ v 6 ⊖ along_v 4 5 6 ⊗ v 9) ⊗ (dx ⊗ v 11 ⊖ dy ⊗ v 10) ⊖
    (line_v 7 8 9 ⊗ v 6 ⊖ line_v 4 5 6 ⊗ v 9) ⊗ (dx ⊗ v 10 ⊕ dy ⊗ v 11))
    refl
  where
    dx : Exp
    dx = v 2 ⊖ v 0

    dy : Exp
    dy = v 3 ⊖ v 1

    along_v : ℕ → ℕ → ℕ → Exp
    along_v x y w = dx ⊗ v x ⊕ dy ⊗ v y ⊕ ((v 0 ⊖ v 2) ⊗ v 0 ⊕ (v 1 ⊖ v 3) ⊗ v 1) ⊗ v w

    line_v : ℕ → ℕ → ℕ → Exp
    line_v x y w = (v 1 ⊖ v 3) ⊗ v x ⊕ dx ⊗ v y ⊕ (v 0 ⊗ v 3 ⊖ v 2 ⊗ v 1) ⊗ v w

-- parallel to one direction that isn't 0
pub both-parallel : (dx dy rx ry ux uy : ℤ) → pos 0 ≺ (dx *ℤ dx +ℤ dy *ℤ dy) → dx *ℤ uy ≡ dy *ℤ ux
    → dx *ℤ ry ≡ dy *ℤ rx → rx *ℤ uy ≡ ry *ℤ ux
both-parallel dx dy rx ry ux uy long e h =
    let e' = ap (λ z. z *ℤ (dx *ℤ rx +ℤ dy *ℤ ry)) e in
    let h' = ap (λ z. z *ℤ (dx *ℤ ux +ℤ dy *ℤ uy)) h in
    cancel (dx *ℤ dx +ℤ dy *ℤ dy) (rx *ℤ uy) (ry *ℤ ux) long (simp expand (omega
    (arith, sums, simp expand at e', simp expand at h')))

-- a parallel direction has one of the two senses
pub senses : (dx dy ux uy : ℤ) → pos 0 ≺ (dx *ℤ dx +ℤ dy *ℤ dy) → pos 0 ≺ (ux *ℤ ux +ℤ uy *ℤ uy)
    → dx *ℤ uy ≡ dy *ℤ ux →
    (dx *ℤ ux +ℤ dy *ℤ uy) ≼ pos 0 → (dx *ℤ ux +ℤ dy *ℤ uy) ≺ pos 0
senses dx dy ux uy long lu e l = go (dx *ℤ ux +ℤ dy *ℤ uy) refl l
  where
    go : (z : ℤ) → dx *ℤ ux +ℤ dy *ℤ uy ≡ z → z ≼ pos 0 → z ≺ pos 0
    go (negsuc n) p l = omega (arith, ints)
    go (pos (suc n)) p l = absurd (omega (arith, ints, l))
    go (pos zero) p l =
        let m = mul_pos (dx *ℤ dx +ℤ dy *ℤ dy) (ux *ℤ ux +ℤ uy *ℤ uy) long lu in
        let p' = ap (λ z. z *ℤ (dx *ℤ ux +ℤ dy *ℤ uy)) p in
        let e' = ap (λ z. z *ℤ (dx *ℤ uy)) e in
        let e'' = ap (λ z. z *ℤ (dy *ℤ ux)) e in
        absurd (omega (arith, sums, simp expand at m, simp expand at p', simp expand at e', simp expand at e''))

-- a form on a step is the difference of its values
pub forth-is : (f : LinearForm) (c d : Point) → forth f c d ≡ at_corner f d -ℤ at_corner f c
forth-is f c d = go f.l f.m f.n c.x c.y d.x d.y
  where
    go : (l m n cx cy dx dy : ℤ) → l *ℤ (dx -ℤ cx) +ℤ m *ℤ (dy -ℤ cy) ≡ l *ℤ dx +ℤ m *ℤ dy +ℤ n -ℤ
        (l *ℤ cx +ℤ m *ℤ cy +ℤ n)
    go l m n cx cy dx dy = simp expand (omega (arith, sums))

-- a form that is 0 strictly between two corners at which it isn't negative is 0 at both
pub flat : (f : LinearForm) (c d : Point) (X : Triple) → pos 0 ≺ square c d → value (line c d) X ≡ pos 0
    → pos 0 ≺ value (along c d) X → value (along c d) X ≺ square c d *ℤ X.w →
    pos 0 ≼ at_corner f c → pos 0 ≼ at_corner f d → value f X ≡ pos 0 → (at_corner f c ≡ pos 0)
    × (at_corner f d ≡ pos 0)
flat f c d X long on after before hc hd e =
    go (square c d) (value f X) (value (line c d) X) _ (value (along c d) X) (forth f c d) X.w (at_corner f c)
    (at_corner f d) (by_line f c d X) on e (forth-is f c d) after before hc hd
  where
    go : (s F L z t u w p q : ℤ) → s *ℤ F ≡ L *ℤ z +ℤ t *ℤ u +ℤ w *ℤ (s *ℤ p) → L ≡ pos 0 → F ≡ pos 0
        → u ≡ q -ℤ p →
        pos 0 ≺ t → t ≺ s *ℤ w → pos 0 ≼ p → pos 0 ≼ q → (p ≡ pos 0) × (q ≡ pos 0)
    go s F L z t u w p q e l f g ht hs hp hq =
        let e' : s *ℤ pos 0 ≡ pos 0 *ℤ z +ℤ t *ℤ (q -ℤ p) +ℤ w *ℤ (s *ℤ p) = ap (λ x. s *ℤ x) (sym f) ∙ e
        ∙ (λ i. l i *ℤ z +ℤ t *ℤ g i +ℤ w *ℤ (s *ℤ p)) in
        let m = mul_nonneg (s *ℤ w -ℤ t) p (omega (arith, sums)) hp in
        let n = mul_nonneg t q (omega (arith, sums)) hq in
        let x = nonneg-cancel t (neg_ℤ q) ht (simp expand (omega
        (arith, sums, simp expand at e', simp expand at m))) in
        let y = nonneg-cancel (s *ℤ w -ℤ t) (neg_ℤ p) (omega (arith, sums)) (simp expand (omega
        (arith, sums, simp expand at e', simp expand at m))) in
        (omega (arith, sums), omega (arith, sums))
