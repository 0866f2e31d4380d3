-- Motions of the bodies: velocities, opening and slide at a bearing, motions that no admissible force
-- resists, and powers.
use mathlib.Core.Path.{◌≡◌}
use mathlib.Core.Bool.{false}
use Prim.Native.Nat.{ℕ, ◌<◌}
use lib.IntN.{ℤ, pos, ◌+ℤ◌, ◌-ℤ◌, ◌*ℤ◌, neg_ℤ}
use Rattle.stack_algebra.specs.Sums.{sum_to}
use Rattle.stack_algebra.specs.IntegerOrder.{◌≼◌, abs}
use Rattle.stack_statics.specs.declared.wrench.Wrench.{Wrench}
use Rattle.stack_statics.specs.Scene.{Move, SceneBearing, Scene}

-- the velocity of body i along x, at the point of a bearing
abbrev pub velocity_x_of : Scene → (ℕ → Move) → SceneBearing → ℕ → ℤ
velocity_x_of s y z i = (y i).u -ℤ (y i).r *ℤ (z.py -ℤ (s.body i).oy)

-- the velocity of body i along y, at the point of a bearing
abbrev pub velocity_y_of : Scene → (ℕ → Move) → SceneBearing → ℕ → ℤ
velocity_y_of s y z i = (y i).v +ℤ (y i).r *ℤ (z.px -ℤ (s.body i).ox)

-- the later body's velocity minus the earlier's, along the normal (-ty, tx)
abbrev pub opening_of : Scene → (ℕ → Move) → SceneBearing → ℤ
opening_of s y z =
    neg_ℤ z.ty *ℤ (velocity_x_of s y z z.second -ℤ velocity_x_of s y z z.first)
    +ℤ z.tx *ℤ (velocity_y_of s y z z.second -ℤ velocity_y_of s y z z.first)

-- the later body's velocity minus the earlier's, along the tangent (tx, ty)
abbrev pub slide_of : Scene → (ℕ → Move) → SceneBearing → ℤ
slide_of s y z =
    z.tx *ℤ (velocity_x_of s y z z.second -ℤ velocity_x_of s y z z.first)
    +ℤ z.ty *ℤ (velocity_y_of s y z z.second -ℤ velocity_y_of s y z z.first)

-- a body neither moves along x or y nor turns
pub record IsStill (y : Move) : Type 0 where
  pub u : y.u ≡ pos 0
  pub v : y.v ≡ pos 0
  pub r : y.r ≡ pos 0

-- a motion of the free bodies alone
abbrev pub KeepsFixedStill : Scene → (ℕ → Move) → Type 0
KeepsFixedStill s y = (i : ℕ) → i < s.bodies → (s.body i).free ≡ false → IsStill (y i)

-- fixed bodies are still, and at each bearing q times the opening is at least p times the size of the slide:
-- no admissible force does negative work on such a motion
pub record IsUnresisted (s : Scene) (y : ℕ → Move) : Type 0 where
  pub still : KeepsFixedStill s y
  pub opens : (k : ℕ) → k < s.bearings →
      (s.bearing k).p *ℤ abs (slide_of s y (s.bearing k)) ≼ (s.bearing k).q *ℤ opening_of s y (s.bearing k)

-- the work of a wrench on a move
abbrev pub power_of : Wrench → Move → ℤ
power_of w y = y.u *ℤ w.fx +ℤ y.v *ℤ w.fy +ℤ y.r *ℤ w.m

-- the work of the dead loads on a motion
abbrev pub dead_power_of : Scene → (ℕ → Move) → ℤ
dead_power_of s y = sum_to s.bodies (λ i. power_of (s.body i).dead (y i))

-- the work of the live loads on a motion
abbrev pub live_power_of : Scene → (ℕ → Move) → ℤ
live_power_of s y = sum_to s.bodies (λ i. power_of (s.body i).live (y i))
