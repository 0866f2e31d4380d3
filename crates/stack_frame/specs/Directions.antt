-- Directions of the plane in lowest terms, and their quarter turns. The tangent of a joint is such a direction.
use Rattle.std.specs.Prelude.{◌≡◌, ◌↔◌, ℕ, ◌<◌, ◌≤◌, ℤ, pos, nat_abs, ◌+ℤ◌, ◌-ℤ◌, ◌*ℤ◌}
use Prim.Native.Nat.{◌∣◌}
use Rattle.stack_algebra.specs.Gcd.{gcd}
use Rattle.stack_algebra.specs.IntegerOrder.{◌≺◌}
use Rattle.stack_polygon.specs.Sizes.{IsStep}
use Rattle.stack_frame.specs.declared.frame.Frame.{Frame}

-- no number but 1 divides both, so they aren't both 0
abbrev pub IsLowest : ℤ → ℤ → Type 0
IsLowest x y = (d : ℕ) → d ∣ nat_abs x → d ∣ nat_abs y → d ≡ 1

-- what each frame is: in lowest terms, each part at most 2,000,000 in size
pub record IsFrame (t : Frame) : Type 0 where
  pub tx : IsStep t.tx
  pub ty : IsStep t.ty
  pub lowest : IsLowest t.tx t.ty

-- t is the direction (dx, dy) in lowest terms: the direction is a positive multiple of t
pub record IsFrameOf (dx dy : ℤ) (t : Frame) : Type 0 where
  pub times : ℕ
  pub positive : 0 < times
  pub x : dx ≡ pos times *ℤ t.tx
  pub y : dy ≡ pos times *ℤ t.ty
  pub lowest : IsLowest t.tx t.ty

-- g is the greatest number that divides both parts of a direction, which aren't both 0
pub record IsGreatestDivisor (dx dy : ℤ) (g : ℕ) : Type 0 where
  pub positive : 0 < g
  pub limit : g ≤ 2000000
  pub left : g ∣ nat_abs dx
  pub right : g ∣ nat_abs dy
  pub greatest : gcd (nat_abs dx) (nat_abs dy) ≡ g

-- the direction is parallel to t, and has its sense
pub record IsParallelInSense (dx dy : ℤ) (t : Frame) : Type 0 where
  pub parallel : dx *ℤ t.ty ≡ dy *ℤ t.tx
  pub same_sense : pos 0 ≺ dx *ℤ t.tx +ℤ dy *ℤ t.ty

-- the square of a length
abbrev pub square_of : ℤ → ℤ → ℤ
square_of x y = x *ℤ x +ℤ y *ℤ y

-- n has the length of t and stands at a right angle to it, on its left: the parallelogram from t to n has the
-- square of that length as its area
pub record IsQuarterTurn (t : Frame) (n : ℤ × ℤ) : Type 0 where
  pub same_length : square_of n.0 n.1 ≡ square_of t.tx t.ty
  pub at_right_angle : t.tx *ℤ n.0 +ℤ t.ty *ℤ n.1 ≡ pos 0
  pub to_the_left : t.tx *ℤ n.1 -ℤ t.ty *ℤ n.0 ≡ square_of t.tx t.ty

-- a direction has one frame
abbrev pub DirectionsHaveOneFrame : Type 0
DirectionsHaveOneFrame = (dx dy : ℤ) (t u : Frame) → IsFrameOf dx dy t → IsFrameOf dx dy u → t ≡ u

-- told without a multiple: its frame is the one in lowest terms to which it is parallel and whose sense it has
abbrev pub FramesByParallels : Type 0
FramesByParallels = (dx dy : ℤ) (t : Frame) →
    IsFrameOf dx dy t ↔ (IsLowest t.tx t.ty × IsParallelInSense dx dy t)
