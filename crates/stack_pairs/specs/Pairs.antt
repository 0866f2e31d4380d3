-- Two loads on a scene, each a wrench on each body, and what of them is carried. After Livesley (1978).
use mathlib.Core.Path.{◌≡◌}
use mathlib.Core.Bool.{true}
use Prim.Native.Nat.{ℕ, ◌<◌}
use lib.IntN.{ℤ, pos, ◌+ℤ◌, ◌*ℤ◌}
use Rattle.stack_algebra.specs.Sums.{sum_to}
use Rattle.stack_algebra.specs.IntegerOrder.{◌≺◌}
use Rattle.stack_statics.specs.declared.wrench.Wrench.{Wrench}
use Rattle.stack_statics.specs.Scene.{BearingPart, Move, Scene}
use Rattle.stack_statics.specs.Balance.{force_x_of, force_y_of, moment_of, bearing_side, IsAdmissible}
use Rattle.stack_statics.specs.Motions.{power_of}
use Rattle.stack_statics.specs.Loads.{wrench_sum}

-- m times a wrench
abbrev pub times_wrench : ℤ → Wrench → Wrench
times_wrench m w = record { fx = m *ℤ w.fx; fy = m *ℤ w.fy; m = m *ℤ w.m }

-- the scene whose live loads are m times the first load and n times the second
abbrev pub toward : Scene → (ℕ → Wrench) → (ℕ → Wrench) → ℤ → ℤ → Scene
toward s v w m n = record {
  bodies = s.bodies;
  body = λ i. record {
    free = (s.body i).free;
    ox = (s.body i).ox;
    oy = (s.body i).oy;
    dead = (s.body i).dead;
    live = wrench_sum (times_wrench m (v i)) (times_wrench n (w i));
  };
  bearings = s.bearings;
  bearing = s.bearing;
}

-- body i is in equilibrium under the forces of its bearings, scale times its dead loads, a times the first load
-- and b times the second
pub record IsPairBalancedAt (s : Scene) (v w : ℕ → Wrench) (f : ℕ → BearingPart) (scale a b : ℤ) (i : ℕ)
    : Type 0 where
  pub along_x : sum_to s.bearings (λ k. bearing_side i (s.bearing k) *ℤ force_x_of (s.bearing k) (f k))
      +ℤ scale *ℤ (s.body i).dead.fx +ℤ a *ℤ (v i).fx +ℤ b *ℤ (w i).fx ≡ pos 0
  pub along_y : sum_to s.bearings (λ k. bearing_side i (s.bearing k) *ℤ force_y_of (s.bearing k) (f k))
      +ℤ scale *ℤ (s.body i).dead.fy +ℤ a *ℤ (v i).fy +ℤ b *ℤ (w i).fy ≡ pos 0
  pub about : sum_to s.bearings
      (λ k. bearing_side i (s.bearing k) *ℤ moment_of (s.body i) (s.bearing k) (f k))
      +ℤ scale *ℤ (s.body i).dead.m +ℤ a *ℤ (v i).m +ℤ b *ℤ (w i).m ≡ pos 0

-- every free body is in equilibrium under these
abbrev pub IsPairBalanced : Scene → (ℕ → Wrench) → (ℕ → Wrench) → (ℕ → BearingPart) → ℤ → ℤ → ℤ → Type 0
IsPairBalanced s v w f scale a b = (i : ℕ) → i < s.bodies → (s.body i).free ≡ true →
    IsPairBalancedAt s v w f scale a b i

-- a over D of the first load and b over D of the second are carried together: for some k > 0 admissible forces
-- balance k * D times the dead loads, k * a times the first load and k * b times the second
pub record CarriesLoads (s : Scene) (v w : ℕ → Wrench) (a b D : ℤ) : Type 0 where
  pub denominator_positive : pos 0 ≺ D
  pub k : ℤ
  pub parts : ℕ → BearingPart
  pub positive : pos 0 ≺ k
  pub admissible : IsAdmissible s parts
  pub balanced : IsPairBalanced s v w parts (k *ℤ D) (k *ℤ a) (k *ℤ b)

-- the work of a load on a motion
abbrev pub load_power_of : Scene → (ℕ → Wrench) → (ℕ → Move) → ℤ
load_power_of s v y = sum_to s.bodies (λ i. power_of (v i) (y i))
