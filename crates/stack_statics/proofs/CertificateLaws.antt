-- What true certificates say of the factors that are carried.
use mathlib.Core.Path.{◌≡◌, sym, ap, subst₂}
use Prim.Native.Nat.{ℕ}
use native.Mathlib.Omega.{arith}
use lib.IntN.{ℤ, pos, ◌+ℤ◌, ◌-ℤ◌, ◌*ℤ◌}
use Rattle.stack_algebra.proofs.Integers.{expand, sums}
use Rattle.stack_algebra.proofs.Order.{◌≼◌, ◌≺◌, mul_pos, mul_nonneg}
use Rattle.stack_statics.specs.Scene.{BearingPart, Scene, IsProper}
use Rattle.stack_statics.specs.Balance.{IsBalanced, IsAdmissible, Carries}
use Rattle.stack_statics.specs.Motions.{dead_power_of, live_power_of}
use Rattle.stack_statics.specs.Certificates.{SceneForces, scene_part_at, move_of}
use Rattle.stack_statics.specs.Laws.{StandsIsCarried, CollapseExcludesBalance, GreatestIsCarried}
use Rattle.stack_statics.specs.Laws.{GreatestBoundsEveryFactor, UnboundedCarriesAbove, UnboundedCarriesAll}
use Rattle.stack_statics.proofs.Work.{loads_lose}
use Rattle.stack_statics.proofs.Mixtures.{mixed, balanced_mixed, admissible_mixed}

pub stands_is_carried : StandsIsCarried
stands_is_carried s f h = record {
  k = f.scale;
  parts = scene_part_at f;
  positive = h.scale_positive;
  admissible = h.forces.admissible;
  balanced = subst₂ (IsBalanced s (scene_part_at f)) (simp expand (omega (arith, sums)))
      (zero_is f.factor f.scale h.factor_zero) h.forces.balanced;
}
  where
    zero_is : (factor scale : ℤ) → factor ≡ pos 0 → factor ≡ scale *ℤ pos 0
    zero_is factor scale e = simp expand (omega (arith, sums, e))

loses : (k D P L : ℤ) → pos 0 ≺ k → pos 0 ≺ D → pos 0 ≺ P → k *ℤ D *ℤ P +ℤ k *ℤ pos 0 *ℤ L ≼ pos 0 → ⊥
loses k D P L hk hd hp h =
    let m = mul_pos (k *ℤ D) P (mul_pos k D hk hd) hp in
    omega (arith, sums, simp expand at m, simp expand at h)

pub collapse_excludes_balance : CollapseExcludesBalance
collapse_excludes_balance s moves D proper c hd f =
    let y = move_of s moves in
    loses f.k D (dead_power_of s y) (live_power_of s y) f.positive hd c.gains
    (loads_lose s y f.parts (f.k *ℤ D) (f.k *ℤ pos 0) proper f.admissible f.balanced c.motion.unresisted)

one_times : (x : ℤ) → pos 1 *ℤ x ≡ x
one_times x = simp expand (omega (arith, sums))

pub greatest_is_carried : GreatestIsCarried
greatest_is_carried s f moves g = record {
  k = pos 1;
  parts = scene_part_at f;
  positive = omega (arith, sums);
  admissible = g.loaded.forces.admissible;
  balanced = subst₂ (IsBalanced s (scene_part_at f)) (sym (one_times f.scale)) (sym (one_times f.factor))
      g.loaded.forces.balanced;
}

-- L * P + D * Q is 0 and k * D' * Q + k * L' * P isn't positive, so L' * D is at most L * D'
no_more : (L D L' D' k P Q : ℤ) → pos 0 ≺ D → pos 0 ≺ P → pos 0 ≺ k → L *ℤ P +ℤ D *ℤ Q ≡ pos 0 →
    k *ℤ D' *ℤ Q +ℤ k *ℤ L' *ℤ P ≼ pos 0 → L *ℤ D' ≺ L' *ℤ D → ⊥
no_more L D L' D' k P Q hd hp hk e h m =
    let a = mul_pos (k *ℤ P) (L' *ℤ D -ℤ L *ℤ D') (mul_pos k P hk hp) (omega (arith, sums)) in
    let b = mul_nonneg D (pos 0 -ℤ (k *ℤ D' *ℤ Q +ℤ k *ℤ L' *ℤ P)) (omega (arith, sums)) (omega (arith, sums))
    in
    let c = ap (λ t. k *ℤ D' *ℤ t) e in
    omega (arith, sums, simp expand at a, simp expand at b, simp expand at c)

pub greatest_bounds_every_factor : GreatestBoundsEveryFactor
greatest_bounds_every_factor s f moves proper g L D m c =
    let y = move_of s moves in
    no_more f.factor f.scale L D c.k (live_power_of s y) (dead_power_of s y)
    g.loaded.scale_positive g.gains c.positive g.meets
    (loads_lose s y c.parts (c.k *ℤ D) (c.k *ℤ L) proper c.admissible c.balanced g.motion.unresisted) m

-- rise * D' times the base and D * L' - D' * L times the ray carry L' over D'
raised : (s : Scene) (f g : ℕ → BearingPart) (D L rise L' D' : ℤ) → IsProper s →
    pos 0 ≺ D → pos 0 ≺ rise → pos 0 ≺ D' → L *ℤ D' ≼ L' *ℤ D →
    IsAdmissible s f → IsBalanced s f D L → IsAdmissible s g → IsBalanced s g (pos 0) rise → Carries s L' D'
raised s f g D L rise L' D' proper hd hr hd' h af bf ag bg = record {
  k = D *ℤ rise;
  parts = mixed m n f g;
  positive = mul_pos D rise hd hr;
  admissible = admissible_mixed s f g m n (λ k l. omega (arith, sums, (proper k l).denominator_positive))
      (omega (arith, sums, mul_pos rise D' hr hd')) (simp expand (omega (arith, sums, simp expand at h)))
      af ag;
  balanced = subst₂ (IsBalanced s (mixed m n f g)) (scale D rise L' D' L) (factor D rise L' D' L)
      (balanced_mixed s f g m n D L (pos 0) rise bf bg);
}
  where
    m : ℤ
    m = rise *ℤ D'

    n : ℤ
    n = D *ℤ L' -ℤ D' *ℤ L

    scale : (D rise L' D' L : ℤ) → rise *ℤ D' *ℤ D +ℤ (D *ℤ L' -ℤ D' *ℤ L) *ℤ pos 0 ≡ D *ℤ rise *ℤ D'
    scale D rise L' D' L = simp expand (omega (arith, sums))

    factor : (D rise L' D' L : ℤ) → rise *ℤ D' *ℤ L +ℤ (D *ℤ L' -ℤ D' *ℤ L) *ℤ rise ≡ D *ℤ rise *ℤ L'
    factor D rise L' D' L = simp expand (omega (arith, sums))

-- a ray of scale 0 balances its live loads alone
ray_balanced : (s : Scene) (g : SceneForces) → g.scale ≡ pos 0 → IsBalanced s (scene_part_at g) g.scale g.factor →
    IsBalanced s (scene_part_at g) (pos 0) g.factor
ray_balanced s g e b = subst₂ (IsBalanced s (scene_part_at g)) e (λ i. g.factor) b

pub unbounded_carries_above : UnboundedCarriesAbove
unbounded_carries_above s base ray proper u L D hd h =
    raised s (scene_part_at base) (scene_part_at ray) base.scale base.factor ray.factor L D proper
    u.loaded.scale_positive u.rises.factor_positive hd h
    u.loaded.forces.admissible u.loaded.forces.balanced
    u.rises.forces.admissible (ray_balanced s ray u.rises.scale_zero u.rises.forces.balanced)

pub unbounded_carries_all : UnboundedCarriesAll
unbounded_carries_all s base ray proper u c L D hl hd =
    raised s c.parts (scene_part_at ray) (c.k *ℤ pos 1) (c.k *ℤ pos 0) ray.factor L D proper
    (omega (arith, sums, c.positive, one_right c.k)) u.rises.factor_positive hd (below c.k L D c.positive hl)
    c.admissible c.balanced
    u.rises.forces.admissible (ray_balanced s ray u.rises.scale_zero u.rises.forces.balanced)
  where
    one_right : (x : ℤ) → x *ℤ pos 1 ≡ x
    one_right x = simp expand (omega (arith, sums))

    below : (k L D : ℤ) → pos 0 ≺ k → pos 0 ≼ L → k *ℤ pos 0 *ℤ D ≼ L *ℤ (k *ℤ pos 1)
    below k L D h l = let m = mul_nonneg k L (omega (arith, sums)) l in simp expand (omega (arith, sums, m))
