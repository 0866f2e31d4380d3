-- Rectangles that lie one beside the other: the side that separates them, and the tangent along it.
use Rattle.std.proofs.Common.{◌≡◌, ℕ, ◌<◌, ℤ, pos, negsuc, ◌-ℤ◌, ◌*ℤ◌, List, length, true, false, ◌⊎◌, inl, inr, sym}
use Rattle.std.proofs.Common.{subst₂, arith, int_le}
use native.Mathlib.Nat.{dvd-one}
use Rattle.std.proofs.lemmas.Int.{ints}
use Rattle.stack_algebra.specs.IntegerOrder.{◌≼◌, ◌≺◌}
use Rattle.stack_algebra.proofs.Integers.{sums, expand}
use Rattle.stack_algebra.proofs.Order.{mul_nonneg}
use Rattle.stack_polygon.specs.declared.point.Point.{Point}
use Rattle.stack_polygon.specs.Plane.{triangle_of}
use Rattle.stack_polygon.specs.Corners.{corner_of}
use Rattle.stack_frame.specs.declared.frame.Frame.{Frame}
use Rattle.stack_frame.proofs.Senses.{frames-by-parallels}
use Rattle.stack_overlap.specs.declared.types.Which.TheVariants.{First}
use Rattle.stack_overlap.specs.Separation.{Separates}
use Rattle.stack_contact.specs.PairContacts.{IsFrameFrom, IsTangentBy}
use Rattle.stack_rectangle.specs.Rectangles.{Extent, level_frame, upright_frame}
use Rattle.stack_rectangle.proofs.LevelEdges.{pt}
use Rattle.stack_rectangle.proofs.Boxes.{HasEdge, IsBox, low_left, low_right, high_right, high_left}
use Rattle.stack_rectangle.proofs.BoxPoints.{corner_within}

-- an edge of the first separates the two, and t is the tangent along it
abbrev pub AreDivided : List Point → List Point → Frame → Type 0
AreDivided ps qs t = (i : ℕ) × (Separates ps i qs × IsTangentBy ps qs First i t)

by_edge : (ps qs : List Point) (c d : Point) (t : Frame) → HasEdge ps c d
    → ((j : ℕ) → j < length qs → triangle_of c d (corner_of qs j) ≼ pos 0) → IsFrameFrom d c t
    → AreDivided ps qs t
by_edge ps qs c d t (i, (lt, e, f)) apart frame = (
  i,
  (
    record {
      is_edge = lt;
      apart = λ j hj. subst₂ (λ p q. triangle_of p q (corner_of qs j) ≼ pos 0) (sym e) (sym f) (apart j hj);
    },
    subst₂ (λ p q. IsFrameFrom q p t) (sym e) (sym f) frame,
  ),
)

-- the four directions
abbrev dir : ℤ → ℤ → Frame
dir x y = record { tx = x; ty = y }

abbrev pub rightwards : Frame
rightwards = dir (pos 1) (pos 0)

abbrev pub leftwards : Frame
leftwards = dir (negsuc 0) (pos 0)

abbrev pub downwards : Frame
downwards = dir (pos 0) (negsuc 0)

abbrev pub upwards : Frame
upwards = dir (pos 0) (pos 1)

to_right : (x u y : ℤ) → x ≺ u → IsFrameFrom (pt x y) (pt u y) rightwards
to_right x u y h = (frames-by-parallels (u -ℤ x) (y -ℤ y) rightwards).1 (
  (λ d p q. dvd-one.0 p),
  record { parallel = simp expand (omega (arith, sums)); same_sense = simp expand (omega (arith, sums)) },
)

to_left : (x u y : ℤ) → u ≺ x → IsFrameFrom (pt x y) (pt u y) leftwards
to_left x u y h = (frames-by-parallels (u -ℤ x) (y -ℤ y) leftwards).1 (
  (λ d p q. dvd-one.0 p),
  record { parallel = simp expand (omega (arith, sums)); same_sense = simp expand (omega (arith, sums)) },
)

downward : (x y v : ℤ) → v ≺ y → IsFrameFrom (pt x y) (pt x v) downwards
downward x y v h = (frames-by-parallels (x -ℤ x) (v -ℤ y) downwards).1 (
  (λ d p q. dvd-one.0 q),
  record { parallel = simp expand (omega (arith, sums)); same_sense = simp expand (omega (arith, sums)) },
)

upward : (x y v : ℤ) → y ≺ v → IsFrameFrom (pt x y) (pt x v) upwards
upward x y v h = (frames-by-parallels (x -ℤ x) (v -ℤ y) upwards).1 (
  (λ d p q. dvd-one.0 q),
  record { parallel = simp expand (omega (arith, sums)); same_sense = simp expand (omega (arith, sums)) },
)

-- corners right of an upright side, and above or below a level one
right_of : (x y v cx cy : ℤ) → y ≺ v → x ≼ cx → (x -ℤ x) *ℤ (cy -ℤ y) -ℤ (v -ℤ y) *ℤ (cx -ℤ x) ≼ pos 0
right_of x y v cx cy h k = let m = mul_nonneg (v -ℤ y) (cx -ℤ x) (omega (arith, sums)) (omega (arith, sums)) in
    simp expand (omega (arith, sums, simp expand at m))

left_of : (x y v cx cy : ℤ) → v ≺ y → cx ≼ x → (x -ℤ x) *ℤ (cy -ℤ y) -ℤ (v -ℤ y) *ℤ (cx -ℤ x) ≼ pos 0
left_of x y v cx cy h k = let m = mul_nonneg (y -ℤ v) (x -ℤ cx) (omega (arith, sums)) (omega (arith, sums)) in
    simp expand (omega (arith, sums, simp expand at m))

above : (x u y cx cy : ℤ) → u ≺ x → y ≼ cy → (u -ℤ x) *ℤ (cy -ℤ y) -ℤ (y -ℤ y) *ℤ (cx -ℤ x) ≼ pos 0
above x u y cx cy h k = let m = mul_nonneg (x -ℤ u) (cy -ℤ y) (omega (arith, sums)) (omega (arith, sums)) in
    simp expand (omega (arith, sums, simp expand at m))

below : (x u y cx cy : ℤ) → x ≺ u → cy ≼ y → (u -ℤ x) *ℤ (cy -ℤ y) -ℤ (y -ℤ y) *ℤ (cx -ℤ x) ≼ pos 0
below x u y cx cy h k = let m = mul_nonneg (u -ℤ x) (y -ℤ cy) (omega (arith, sums)) (omega (arith, sums)) in
    simp expand (omega (arith, sums, simp expand at m))

follows : (x y z : ℤ) → x ≼ y → y ≼ z → x ≼ z
follows x y z h k = omega (arith, sums)

-- the two lie one beside the other by x, or by y
module _ (ps qs : List Point) (a b : Extent) (one : IsBox ps a) (other : IsBox qs b) where
  by_right : a.x.high ≼ b.x.low → AreDivided ps qs downwards
  by_right h = by_edge ps qs (low_right a) (high_right a) downwards one.right
      (λ j hj. right_of a.x.high a.y.low a.y.high _ _ one.tall
      (follows _ _ _ h (corner_within qs b other j hj).x_low))
      (downward a.x.high a.y.high a.y.low one.tall)

  by_left : b.x.high ≼ a.x.low → AreDivided ps qs upwards
  by_left h = by_edge ps qs (high_left a) (low_left a) upwards one.left
      (λ j hj. left_of a.x.low a.y.high a.y.low _ _ one.tall
      (follows _ _ _ (corner_within qs b other j hj).x_high h))
      (upward a.x.low a.y.low a.y.high one.tall)

  by_upper : a.y.high ≼ b.y.low → AreDivided ps qs rightwards
  by_upper h = by_edge ps qs (high_right a) (high_left a) rightwards one.upper
      (λ j hj. above a.x.high a.x.low a.y.high _ _ one.wide
      (follows _ _ _ h (corner_within qs b other j hj).y_low))
      (to_right a.x.low a.x.high a.y.high one.wide)

  by_lower : b.y.high ≼ a.y.low → AreDivided ps qs leftwards
  by_lower h = by_edge ps qs (low_left a) (low_right a) leftwards one.lower
      (λ j hj. below a.x.low a.x.high a.y.low _ _ one.wide
      (follows _ _ _ (corner_within qs b other j hj).y_high h))
      (to_left a.x.high a.x.low a.y.low one.wide)

  -- which of the two sides it is, by a test
  tested : (l u : ℤ) → l ≼ u → int_le l u ≡ true
  tested l u h = grind (arith, ints)

  refused : (l u : ℤ) → u ≺ l → int_le l u ≡ false
  refused l u h = grind (arith, ints)

  between : (al ah bl bh : ℤ) → al ≺ ah → bl ≺ bh → bh ≼ al → bl ≺ ah
  between al ah bl bh h k le = omega (arith, sums)

  pub divided_by_x : (a.x.high ≼ b.x.low) ⊎ (b.x.high ≼ a.x.low) → AreDivided ps qs (upright_frame a b)
  divided_by_x (inl h) = let t = tested a.x.high b.x.low h in rw t (by_right h)
  divided_by_x (inr h) =
      let t = refused a.x.high b.x.low (between a.x.low a.x.high b.x.low b.x.high one.wide other.wide h) in
      rw t (by_left h)

  pub divided_by_y : (a.y.high ≼ b.y.low) ⊎ (b.y.high ≼ a.y.low) → AreDivided ps qs (level_frame a b)
  divided_by_y (inl h) = let t = tested a.y.high b.y.low h in rw t (by_upper h)
  divided_by_y (inr h) =
      let t = refused a.y.high b.y.low (between a.y.low a.y.high b.y.low b.y.high one.tall other.tall h) in
      rw t (by_lower h)
