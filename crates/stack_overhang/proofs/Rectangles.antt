-- A rectangle with an area, within the limits of coordinates: its corner list is taken, and is its own outline.
use Rattle.std.proofs.Common.{◌≡◌, ℕ, zero, suc, ◌<◌, ℤ, pos, ◌-ℤ◌, ◌*ℤ◌, true, ◌&&◌, map, Some, Ok, refl}
use Rattle.std.proofs.Common.{arith, int_lt}
use Rattle.stack_algebra.proofs.Conjunctions.{both_true}
use Rattle.std.proofs.lemmas.Int.{ints}
use Rattle.stack_algebra.proofs.Integers.{expand, sums}
use Rattle.stack_algebra.proofs.Order.{◌≺◌, mul_pos}
use Rattle.stack_polygon.specs.Limits.{is_near, are_in_range}
use Rattle.stack_polygon.specs.Outlines.{is_clear, is_left_or_end, is_convex}
use Rattle.stack_polygon.proofs.Tested.{below_each}
use Rattle.stack_model.specs.Limits.{corner_list_of as corner_points}
use Rattle.stack_model.specs.Convex.{convex}
use Rattle.stack_model.specs.Relisted.{coordinates}
use Rattle.stack_model.proofs.Points.{corners_again}
use Rattle.stack_overhang.specs.declared.types.Rectangle.{Rectangle}
use Rattle.stack_overhang.specs.Bricks.{rectangle_corners}
use Rattle.stack_overhang.specs.Limits.{is_placed}

below_four : (P : ℕ → Type 0) → P 0 → P 1 → P 2 → P 3 → (k : ℕ) → k < 4 → P k
below_four P p q r s zero l = p
below_four P p q r s (suc zero) l = q
below_four P p q r s (suc (suc zero)) l = r
below_four P p q r s (suc (suc (suc zero))) l = s
below_four P p q r s (suc (suc (suc (suc k)))) l = absurd (omega arith)

pub less : (a b : ℤ) → int_lt a b ≡ true → a ≺ b
less a b h = grind (arith, ints)

-- what is the area is positive
is_left : (x a : ℤ) → pos 0 ≺ a → x ≡ a → int_lt (pos 0) x ≡ true
is_left x a h e = grind (arith, ints)

-- a side with a corner that isn't its end has the area of the rectangle
module _ (l r b t : ℤ) where
  abbrev area : ℤ
  area = (r -ℤ l) *ℤ (t -ℤ b)

  below_right : (r -ℤ l) *ℤ (t -ℤ b) -ℤ (b -ℤ b) *ℤ (r -ℤ l) ≡ area
  below_right = simp expand (omega (arith, sums))

  below_left : (r -ℤ l) *ℤ (t -ℤ b) -ℤ (b -ℤ b) *ℤ (l -ℤ l) ≡ area
  below_left = simp expand (omega (arith, sums))

  right_high : (r -ℤ r) *ℤ (t -ℤ b) -ℤ (t -ℤ b) *ℤ (l -ℤ r) ≡ area
  right_high = simp expand (omega (arith, sums))

  right_low : (r -ℤ r) *ℤ (b -ℤ b) -ℤ (t -ℤ b) *ℤ (l -ℤ r) ≡ area
  right_low = simp expand (omega (arith, sums))

  above_left : (l -ℤ r) *ℤ (b -ℤ t) -ℤ (t -ℤ t) *ℤ (l -ℤ r) ≡ area
  above_left = simp expand (omega (arith, sums))

  above_right : (l -ℤ r) *ℤ (b -ℤ t) -ℤ (t -ℤ t) *ℤ (r -ℤ r) ≡ area
  above_right = simp expand (omega (arith, sums))

  left_low : (l -ℤ l) *ℤ (b -ℤ t) -ℤ (b -ℤ t) *ℤ (r -ℤ l) ≡ area
  left_low = simp expand (omega (arith, sums))

  left_high : (l -ℤ l) *ℤ (t -ℤ t) -ℤ (b -ℤ t) *ℤ (r -ℤ l) ≡ area
  left_high = simp expand (omega (arith, sums))

is_convex_rectangle : (r : Rectangle) → r.left ≺ r.right → r.bottom ≺ r.top → is_convex (rectangle_corners r) ≡ true
is_convex_rectangle r h k =
    let ps = rectangle_corners r in
    let wide : pos 0 ≺ r.right -ℤ r.left = omega (arith, sums) in
    let tall : pos 0 ≺ r.top -ℤ r.bottom = omega (arith, sums) in
    let a = mul_pos (r.right -ℤ r.left) (r.top -ℤ r.bottom) wide tall in
    let clear = λ (i : ℕ) (each : (j : ℕ) → j < 4 → is_left_or_end ps i j ≡ true).
    below_each (is_left_or_end ps i) 4 each in
    below_each (is_clear ps) 4 (below_four (λ i. is_clear ps i ≡ true)
    (clear 0 (below_four (λ j. is_left_or_end ps 0 j ≡ true) refl refl
    (is_left _ _ a (below_right r.left r.right r.bottom r.top))
    (is_left _ _ a (below_left r.left r.right r.bottom r.top))))
    (clear 1 (below_four (λ j. is_left_or_end ps 1 j ≡ true)
    (is_left _ _ a (right_low r.left r.right r.bottom r.top)) refl refl
    (is_left _ _ a (right_high r.left r.right r.bottom r.top))))
    (clear 2 (below_four (λ j. is_left_or_end ps 2 j ≡ true)
    (is_left _ _ a (above_left r.left r.right r.bottom r.top))
    (is_left _ _ a (above_right r.left r.right r.bottom r.top))
    refl refl))
    (clear 3 (below_four (λ j. is_left_or_end ps 3 j ≡ true) refl
    (is_left _ _ a (left_low r.left r.right r.bottom r.top))
    (is_left _ _ a (left_high r.left r.right r.bottom r.top))
    refl)))

-- the corners of a rectangle are taken as they are listed, and are an outline
pub record IsTaken (r : Rectangle) : Type 0 where
  pub corners : corner_points (map coordinates (rectangle_corners r)) ≡ Some (rectangle_corners r)
  pub outline : (i : ℕ) → convex i (rectangle_corners r) ≡ Ok (rectangle_corners r)

pub taken : (r : Rectangle) → is_placed r ≡ true → IsTaken r
taken r h =
    let parts = both_true _ _ h in
    let sizes = both_true (int_lt r.left r.right) _ parts.0 in
    let near = both_true (is_near r.left && is_near r.right) _ parts.1 in
    let x = both_true (is_near r.left) (is_near r.right) near.0 in
    let y = both_true (is_near r.bottom) (is_near r.top) near.1 in
    let range : are_in_range (rectangle_corners r) ≡ true = λ i. (x.0 i && y.0 i) && ((x.1 i && y.0 i)
    && ((x.1 i && y.1 i) && ((x.0 i && y.1 i) && true))) in
    let straight = is_convex_rectangle r (less _ _ sizes.0) (less _ _ sizes.1) in
    record {
      corners = corners_again (rectangle_corners r) (record { count = refl; range = range });
      outline = λ i. rw straight refl;
    }
