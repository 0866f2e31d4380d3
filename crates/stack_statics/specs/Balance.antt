-- Forces at the bearings: when they are admissible, and when they balance every free body.
use mathlib.Core.Path.{◌≡◌}
use mathlib.Core.Bool.{Bool, true, cond}
use Prim.Native.Nat.{ℕ, ◌<◌}
use lib.Dec.{eqb}
use lib.IntN.{ℤ, pos, negsuc, ◌+ℤ◌, ◌-ℤ◌, ◌*ℤ◌, neg_ℤ}
use Rattle.stack_algebra.specs.Sums.{sum_to}
use Rattle.stack_algebra.specs.IntegerOrder.{◌≺◌}
use Rattle.stack_frame.specs.Cones.{coefficient}
use Rattle.stack_frame.specs.Admitted.{IsAdmitted}
use Rattle.stack_statics.specs.declared.wrench.Wrench.{Wrench}
use Rattle.stack_statics.specs.Scene.{BearingPart, SceneBody, SceneBearing, Scene}

-- the force of a part on the later body along x: a times the normal (-ty, tx) plus b times the tangent (tx, ty)
abbrev pub force_x_of : SceneBearing → BearingPart → ℤ
force_x_of z f = f.a *ℤ neg_ℤ z.ty +ℤ f.b *ℤ z.tx

-- the force of a part on the later body along y
abbrev pub force_y_of : SceneBearing → BearingPart → ℤ
force_y_of z f = f.a *ℤ z.tx +ℤ f.b *ℤ z.ty

-- the moment of that force about the first corner of a body
abbrev pub moment_of : SceneBody → SceneBearing → BearingPart → ℤ
moment_of b z f = (z.px -ℤ b.ox) *ℤ force_y_of z f -ℤ (z.py -ℤ b.oy) *ℤ force_x_of z f

-- 1 for the later body of a bearing, -1 for the earlier one, on which the opposite force acts, 0 for all
-- others
abbrev pub bearing_side : ℕ → SceneBearing → ℤ
bearing_side i z = cond (eqb i z.second) (pos 1) (cond (eqb i z.first) (negsuc 0) (pos 0))

-- the sum of body i along x: the forces of its bearings, scale times its dead loads and factor times its live loads
abbrev pub sum_x_of : Scene → (ℕ → BearingPart) → ℤ → ℤ → ℕ → ℤ
sum_x_of s f scale factor i =
    sum_to s.bearings (λ k. bearing_side i (s.bearing k) *ℤ force_x_of (s.bearing k) (f k))
    +ℤ scale *ℤ (s.body i).dead.fx +ℤ factor *ℤ (s.body i).live.fx

-- the sum of body i along y: the forces of its bearings, scale times its dead loads and factor times its live loads
abbrev pub sum_y_of : Scene → (ℕ → BearingPart) → ℤ → ℤ → ℕ → ℤ
sum_y_of s f scale factor i =
    sum_to s.bearings (λ k. bearing_side i (s.bearing k) *ℤ force_y_of (s.bearing k) (f k))
    +ℤ scale *ℤ (s.body i).dead.fy +ℤ factor *ℤ (s.body i).live.fy

-- the sum of body i about its first corner: the moments of all these
abbrev pub sum_m_of : Scene → (ℕ → BearingPart) → ℤ → ℤ → ℕ → ℤ
sum_m_of s f scale factor i =
    sum_to s.bearings (λ k. bearing_side i (s.bearing k) *ℤ moment_of (s.body i) (s.bearing k) (f k))
    +ℤ scale *ℤ (s.body i).dead.m +ℤ factor *ℤ (s.body i).live.m

-- the force q*normal + p*tangent, or q*normal - p*tangent
abbrev pub edge_of_cone : SceneBearing → Bool → BearingPart
edge_of_cone z plus = record { a = z.q; b = cond plus z.p (neg_ℤ z.p) }

-- what a part at a bearing exerts on body i: its opposite on the earlier body, and nothing on any other
abbrev pub exerted_on : Scene → ℕ → SceneBearing → BearingPart → Wrench
exerted_on s i z f = record {
  fx = bearing_side i z *ℤ force_x_of z f;
  fy = bearing_side i z *ℤ force_y_of z f;
  m = bearing_side i z *ℤ moment_of (s.body i) z f;
}

-- body i is in equilibrium: two sums of force and one of moment are 0
pub record IsBalancedAt (s : Scene) (f : ℕ → BearingPart) (scale factor : ℤ) (i : ℕ) : Type 0 where
  pub along_x : sum_x_of s f scale factor i ≡ pos 0
  pub along_y : sum_y_of s f scale factor i ≡ pos 0
  pub about : sum_m_of s f scale factor i ≡ pos 0

-- every free body is in equilibrium; of a fixed one nothing is asked
abbrev pub IsBalanced : Scene → (ℕ → BearingPart) → ℤ → ℤ → Type 0
IsBalanced s f scale factor = (i : ℕ) → i < s.bodies → (s.body i).free ≡ true →
    IsBalancedAt s f scale factor i

-- a part pushes and stays within the cone of friction
abbrev pub IsWithinCone : SceneBearing → BearingPart → Type 0
IsWithinCone z f = IsAdmitted (coefficient z.p z.q) f.a f.b

-- every bearing pushes, and its part stays within its cone of friction
abbrev pub IsAdmissible : Scene → (ℕ → BearingPart) → Type 0
IsAdmissible s f = (k : ℕ) → k < s.bearings → IsWithinCone (s.bearing k) (f k)

-- forces carry the factor L over D: for some k > 0 their factor is k * L and their scale k * D
pub record Carries (s : Scene) (L D : ℤ) : Type 0 where
  pub k : ℤ
  pub parts : ℕ → BearingPart
  pub positive : pos 0 ≺ k
  pub admissible : IsAdmissible s parts
  pub balanced : IsBalanced s parts (k *ℤ D) (k *ℤ L)
