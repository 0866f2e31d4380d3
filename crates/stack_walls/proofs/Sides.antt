-- Two rectangles side by side, or one above the other: an edge separates them. And where their common points lie.
use Rattle.std.proofs.Common.{◌≡◌, refl, ℕ, zero, suc, ◌<◌, ℤ, pos, ◌-ℤ◌, ◌*ℤ◌, true, ◌&&◌, inl, inr, arith, int_lt}
use Rattle.std.proofs.lemmas.Int.{ints}
use Rattle.stack_algebra.proofs.Conjunctions.{both_true}
use Rattle.stack_algebra.proofs.Integers.{expand, sums}
use Rattle.stack_algebra.proofs.Order.{◌≼◌, ◌≺◌, mul_nonneg, nonneg-cancel}
use Rattle.stack_polygon.specs.declared.point.Point.{Point}
use Rattle.stack_polygon.specs.Plane.{Triple}
use Rattle.stack_polygon.specs.Corners.{IsInside}
use Rattle.stack_polygon.specs.Limits.{is_near, are_in_range}
use Rattle.stack_model.proofs.Points.{outlined}
use Rattle.stack_contact.specs.Surveyed.{AreSeparated}
use Rattle.stack_overhang.specs.declared.types.Rectangle.{Rectangle}
use Rattle.stack_overhang.specs.Bricks.{rectangle_corners}
use Rattle.stack_overhang.specs.Limits.{is_placed}
use Rattle.stack_overhang.proofs.Rectangles.{less, taken}
use Rattle.stack_rectangle.specs.Rectangles.{IsRectangle}

below_four : (P : ℕ → Type 0) → P 0 → P 1 → P 2 → P 3 → (k : ℕ) → k < 4 → P k
below_four P p q r s zero l = p
below_four P p q r s (suc zero) l = q
below_four P p q r s (suc (suc zero)) l = r
below_four P p q r s (suc (suc (suc zero))) l = s
below_four P p q r s (suc (suc (suc (suc k)))) l = absurd (omega arith)

-- a rectangle with an area, within the limits of coordinates
pub is_rectangle : (r : Rectangle) → is_placed r ≡ true → IsRectangle (rectangle_corners r)
is_rectangle r h =
    let near = both_true (is_near r.left && is_near r.right) _ (both_true _ _ h).1 in
    let x = both_true (is_near r.left) (is_near r.right) near.0 in
    let y = both_true (is_near r.bottom) (is_near r.top) near.1 in
    let range : are_in_range (rectangle_corners r) ≡ true = λ i. (x.0 i && y.0 i) && ((x.1 i && y.0 i)
    && ((x.1 i && y.1 i) && ((x.0 i && y.1 i) && true))) in
    record {
      polygon = outlined 0 (rectangle_corners r) (rectangle_corners r) (record { count = refl; range = range })
          ((taken r h).outline 0);
      four = refl;
      sides = below_four _ (inl refl) (inr refl) (inl refl) (inr refl);
    }

-- a rectangle has a width and a height
pub record HasArea (r : Rectangle) : Type 0 where
  pub wide : r.left ≺ r.right
  pub tall : r.bottom ≺ r.top

pub has_area : (r : Rectangle) → is_placed r ≡ true → HasArea r
has_area r h =
    let sizes = both_true (int_lt r.left r.right) (int_lt r.bottom r.top) (both_true _ _ h).0 in
    record { wide = less r.left r.right sizes.0; tall = less r.bottom r.top sizes.1 }

-- a point at x beyond the side at e, which runs h upwards
beyond_right : (e h x y : ℤ) → pos 0 ≼ h → e ≼ x → (e -ℤ e) *ℤ y -ℤ h *ℤ (x -ℤ e) ≼ pos 0
beyond_right e h x y up on =
    let m = mul_nonneg h (x -ℤ e) up (omega (arith, sums)) in
    simp expand (omega (arith, sums, simp expand at m))

-- a point at y above the side at e, which runs from right to left over n
beyond_top : (e n x y : ℤ) → n ≼ pos 0 → e ≼ y → n *ℤ (y -ℤ e) -ℤ (e -ℤ e) *ℤ x ≼ pos 0
beyond_top e n x y back on =
    let m = mul_nonneg (pos 0 -ℤ n) (y -ℤ e) (omega (arith, sums)) (omega (arith, sums)) in
    simp expand (omega (arith, sums, simp expand at m))

-- one ends where the other begins, or before, from left to right
pub beside : (r q : Rectangle) → HasArea r → HasArea q → r.right ≼ q.left
    → AreSeparated (rectangle_corners r) (rectangle_corners q)
beside r q a b on =
    let up : pos 0 ≼ r.top -ℤ r.bottom = let t = a.tall in omega (arith, sums) in
    let far : r.right ≼ q.right = let t = b.wide in omega (arith, sums) in
    inl (
      1,
      record {
        is_edge = omega arith;
        apart = below_four _
            (beyond_right r.right (r.top -ℤ r.bottom) q.left (q.bottom -ℤ r.bottom) up on)
            (beyond_right r.right (r.top -ℤ r.bottom) q.right (q.bottom -ℤ r.bottom) up far)
            (beyond_right r.right (r.top -ℤ r.bottom) q.right (q.top -ℤ r.bottom) up far)
            (beyond_right r.right (r.top -ℤ r.bottom) q.left (q.top -ℤ r.bottom) up on);
      },
    )

-- one ends where the other begins, or before, from the bottom up
pub below : (r q : Rectangle) → HasArea r → HasArea q → r.top ≼ q.bottom
    → AreSeparated (rectangle_corners r) (rectangle_corners q)
below r q a b on =
    let back : r.left -ℤ r.right ≼ pos 0 = let t = a.wide in omega (arith, sums) in
    let far : r.top ≼ q.top = let t = b.tall in omega (arith, sums) in
    inl (
      2,
      record {
        is_edge = omega arith;
        apart = below_four _
            (beyond_top r.top (r.left -ℤ r.right) (q.left -ℤ r.right) q.bottom back on)
            (beyond_top r.top (r.left -ℤ r.right) (q.right -ℤ r.right) q.bottom back on)
            (beyond_top r.top (r.left -ℤ r.right) (q.right -ℤ r.right) q.top back far)
            (beyond_top r.top (r.left -ℤ r.right) (q.left -ℤ r.right) q.top back far);
      },
    )

-- a whole point as a point of the plane
abbrev pub point_at : Point → Triple
point_at p = record { x = p.x; y = p.y; w = pos 1; positive = omega (arith, ints) }

-- X lies within the sides of the rectangle
pub record IsWithin (r : Rectangle) (X : Triple) : Type 0 where
  pub left : r.left *ℤ X.w ≼ X.x
  pub right : X.x ≼ r.right *ℤ X.w
  pub bottom : r.bottom *ℤ X.w ≼ X.y
  pub top : X.y ≼ r.top *ℤ X.w

-- what each of the four edges says of a point that is left of it or on it
from_bottom : (l r b y z w : ℤ) → l ≺ r → pos 0 ≼ (r -ℤ l) *ℤ (y -ℤ b *ℤ w) -ℤ (b -ℤ b) *ℤ z → b *ℤ w ≼ y
from_bottom l r b y z w wide h =
    let p : pos 0 ≼ (r -ℤ l) *ℤ (y -ℤ b *ℤ w) = simp expand (omega (arith, sums, simp expand at h)) in
    let q = nonneg-cancel (r -ℤ l) (y -ℤ b *ℤ w) (omega (arith, sums)) p in
    omega (arith, sums, q)

to_right : (b t r x z w : ℤ) → b ≺ t → pos 0 ≼ (r -ℤ r) *ℤ z -ℤ (t -ℤ b) *ℤ (x -ℤ r *ℤ w) → x ≼ r *ℤ w
to_right b t r x z w tall h =
    let p : pos 0 ≼ (t -ℤ b) *ℤ (r *ℤ w -ℤ x) = simp expand (omega (arith, sums, simp expand at h)) in
    let q = nonneg-cancel (t -ℤ b) (r *ℤ w -ℤ x) (omega (arith, sums)) p in
    omega (arith, sums, q)

to_top : (l r t y z w : ℤ) → l ≺ r → pos 0 ≼ (l -ℤ r) *ℤ (y -ℤ t *ℤ w) -ℤ (t -ℤ t) *ℤ z → y ≼ t *ℤ w
to_top l r t y z w wide h =
    let p : pos 0 ≼ (r -ℤ l) *ℤ (t *ℤ w -ℤ y) = simp expand (omega (arith, sums, simp expand at h)) in
    let q = nonneg-cancel (r -ℤ l) (t *ℤ w -ℤ y) (omega (arith, sums)) p in
    omega (arith, sums, q)

from_left : (b t l x z w : ℤ) → b ≺ t → pos 0 ≼ (l -ℤ l) *ℤ z -ℤ (b -ℤ t) *ℤ (x -ℤ l *ℤ w) → l *ℤ w ≼ x
from_left b t l x z w tall h =
    let p : pos 0 ≼ (t -ℤ b) *ℤ (x -ℤ l *ℤ w) = simp expand (omega (arith, sums, simp expand at h)) in
    let q = nonneg-cancel (t -ℤ b) (x -ℤ l *ℤ w) (omega (arith, sums)) p in
    omega (arith, sums, q)

pub within : (r : Rectangle) (X : Triple) → HasArea r → IsInside (rectangle_corners r) X → IsWithin r X
within r X a h = record {
  left = from_left r.bottom r.top r.left X.x (X.y -ℤ r.top *ℤ X.w) X.w a.tall (h 3 (omega arith));
  right = to_right r.bottom r.top r.right X.x (X.y -ℤ r.bottom *ℤ X.w) X.w a.tall (h 1 (omega arith));
  bottom = from_bottom r.left r.right r.bottom X.y (X.x -ℤ r.left *ℤ X.w) X.w a.wide (h 0 (omega arith));
  top = to_top r.left r.right r.top X.y (X.x -ℤ r.right *ℤ X.w) X.w a.wide (h 2 (omega arith));
}
