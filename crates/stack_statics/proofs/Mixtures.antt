-- Forces scaled and added.
use mathlib.Core.Path.{◌≡◌, ap, ◌∙◌}
use Prim.Native.Nat.{ℕ, ◌<◌}
use native.Mathlib.Omega.{arith}
use lib.IntN.{ℤ, pos, ◌+ℤ◌, ◌-ℤ◌, ◌*ℤ◌, neg_ℤ}
use Rattle.std.proofs.lemmas.Int.{ints}
use Rattle.stack_algebra.specs.Sums.{sum_to}
use Rattle.stack_algebra.proofs.Integers.{expand, sums}
use Rattle.stack_algebra.proofs.Order.{◌≼◌, abs, abs_bounds, mul_nonneg}
use Rattle.stack_algebra.proofs.IntegerRing.{integers}
use Rattle.stack_algebra.proofs.Sums.{sum_same, sum_add, sum_scale}
use Rattle.stack_statics.specs.Scene.{SceneBearing, BearingPart, Scene}
use Rattle.stack_statics.specs.Balance.{force_x_of, force_y_of, moment_of, bearing_side, IsBalanced, IsWithinCone}
use Rattle.stack_statics.specs.Balance.{IsAdmissible}

-- m times f and n times g
abbrev pub mixed : ℤ → ℤ → (ℕ → BearingPart) → (ℕ → BearingPart) → ℕ → BearingPart
mixed m n f g k = record { a = m *ℤ (f k).a +ℤ n *ℤ (g k).a; b = m *ℤ (f k).b +ℤ n *ℤ (g k).b }

-- a sum of mixtures is a mixture of the sums
mixed_sum : (m n : ℤ) (k : ℕ) (h f g : ℕ → ℤ) → ((i : ℕ) → h i ≡ m *ℤ f i +ℤ n *ℤ g i) → (a b d e x y : ℤ) →
    sum_to k f +ℤ a *ℤ x +ℤ b *ℤ y ≡ pos 0 → sum_to k g +ℤ d *ℤ x +ℤ e *ℤ y ≡ pos 0 →
    sum_to k h +ℤ (m *ℤ a +ℤ n *ℤ d) *ℤ x +ℤ (m *ℤ b +ℤ n *ℤ e) *ℤ y ≡ pos 0
mixed_sum m n k h f g same a b d e x y p q = combine (sum_to k h) (sum_to k f) (sum_to k g) m n a b d e x y
    (sum_same integers k h (λ i. m *ℤ f i +ℤ n *ℤ g i) (λ i _. same i)
    ∙ sum_add integers k (λ i. m *ℤ f i) (λ i. n *ℤ g i)
    ∙ (λ j. sum_scale integers k m f j +ℤ sum_scale integers k n g j)) p q
  where
    combine : (H F G m n a b d e x y : ℤ) → H ≡ m *ℤ F +ℤ n *ℤ G → F +ℤ a *ℤ x +ℤ b *ℤ y ≡ pos 0 →
        G +ℤ d *ℤ x +ℤ e *ℤ y ≡ pos 0 → H +ℤ (m *ℤ a +ℤ n *ℤ d) *ℤ x +ℤ (m *ℤ b +ℤ n *ℤ e) *ℤ y ≡ pos 0
    combine H F G m n a b d e x y h p q = simp expand
        (omega (
          arith,
          sums,
          simp expand at h,
          simp expand at (ap (λ t. m *ℤ t) p),
          simp expand at (ap (λ t. n *ℤ t) q),
        ))

mixed_x : (s m n a b c d tx ty : ℤ) → s *ℤ ((m *ℤ a +ℤ n *ℤ c) *ℤ neg_ℤ ty +ℤ (m *ℤ b +ℤ n *ℤ d) *ℤ tx)
    ≡ m *ℤ (s *ℤ (a *ℤ neg_ℤ ty +ℤ b *ℤ tx)) +ℤ n *ℤ (s *ℤ (c *ℤ neg_ℤ ty +ℤ d *ℤ tx))
mixed_x s m n a b c d tx ty = simp expand (omega (arith, sums))

mixed_y : (s m n a b c d tx ty : ℤ) → s *ℤ ((m *ℤ a +ℤ n *ℤ c) *ℤ tx +ℤ (m *ℤ b +ℤ n *ℤ d) *ℤ ty)
    ≡ m *ℤ (s *ℤ (a *ℤ tx +ℤ b *ℤ ty)) +ℤ n *ℤ (s *ℤ (c *ℤ tx +ℤ d *ℤ ty))
mixed_y s m n a b c d tx ty = simp expand (omega (arith, sums))

mixed_m : (s m n a b c d tx ty lx ly : ℤ) →
    s *ℤ (lx *ℤ ((m *ℤ a +ℤ n *ℤ c) *ℤ tx +ℤ (m *ℤ b +ℤ n *ℤ d) *ℤ ty) -ℤ ly *ℤ
    ((m *ℤ a +ℤ n *ℤ c) *ℤ neg_ℤ ty +ℤ (m *ℤ b +ℤ n *ℤ d) *ℤ tx))
    ≡ m *ℤ (s *ℤ (lx *ℤ (a *ℤ tx +ℤ b *ℤ ty) -ℤ ly *ℤ (a *ℤ neg_ℤ ty +ℤ b *ℤ tx))) +ℤ n *ℤ
    (s *ℤ (lx *ℤ (c *ℤ tx +ℤ d *ℤ ty) -ℤ ly *ℤ (c *ℤ neg_ℤ ty +ℤ d *ℤ tx)))
mixed_m s m n a b c d tx ty lx ly = simp expand (omega (arith, sums))

pub balanced_mixed : (s : Scene) (f g : ℕ → BearingPart) (m n a b d e : ℤ) → IsBalanced s f a b →
    IsBalanced s g d e → IsBalanced s (mixed m n f g) (m *ℤ a +ℤ n *ℤ d) (m *ℤ b +ℤ n *ℤ e)
balanced_mixed s f g m n a b d e p q i l t = record {
  along_x = mixed_sum m n s.bearings _ (λ k. bearing_side i (s.bearing k) *ℤ force_x_of (s.bearing k) (f k))
      (λ k. bearing_side i (s.bearing k) *ℤ force_x_of (s.bearing k) (g k))
      (λ k. mixed_x (bearing_side i (s.bearing k)) m n (f k).a (f k).b (g k).a (g k).b (s.bearing k).tx
      (s.bearing k).ty) a b d e (s.body i).dead.fx (s.body i).live.fx (p i l t).along_x (q i l t).along_x;
  along_y = mixed_sum m n s.bearings _ (λ k. bearing_side i (s.bearing k) *ℤ force_y_of (s.bearing k) (f k))
      (λ k. bearing_side i (s.bearing k) *ℤ force_y_of (s.bearing k) (g k))
      (λ k. mixed_y (bearing_side i (s.bearing k)) m n (f k).a (f k).b (g k).a (g k).b (s.bearing k).tx
      (s.bearing k).ty) a b d e (s.body i).dead.fy (s.body i).live.fy (p i l t).along_y (q i l t).along_y;
  about = mixed_sum m n s.bearings _
      (λ k. bearing_side i (s.bearing k) *ℤ moment_of (s.body i) (s.bearing k) (f k))
      (λ k. bearing_side i (s.bearing k) *ℤ moment_of (s.body i) (s.bearing k) (g k))
      (λ k. mixed_m (bearing_side i (s.bearing k)) m n (f k).a (f k).b (g k).a (g k).b (s.bearing k).tx
      (s.bearing k).ty ((s.bearing k).px -ℤ (s.body i).ox) ((s.bearing k).py -ℤ (s.body i).oy)) a b d e
      (s.body i).dead.m (s.body i).live.m (p i l t).about (q i l t).about;
}

-- |m * b + n * d| from the sizes of b and d
abs_le : (x t : ℤ) → x ≼ t → neg_ℤ x ≼ t → abs x ≼ t
abs_le x t h k = omega (arith, ints)

abs_mixed : (m n b d B D : ℤ) → pos 0 ≼ m → pos 0 ≼ n → b ≼ B → neg_ℤ b ≼ B → d ≼ D → neg_ℤ d ≼ D →
    abs (m *ℤ b +ℤ n *ℤ d) ≼ m *ℤ B +ℤ n *ℤ D
abs_mixed m n b d B D hm hn h₁ h₂ h₃ h₄ =
    let k₁ = mul_nonneg m (B -ℤ b) hm (omega (arith, sums)) in
    let k₂ = mul_nonneg m (B +ℤ b) hm (omega (arith, sums)) in
    let k₃ = mul_nonneg n (D -ℤ d) hn (omega (arith, sums)) in
    let k₄ = mul_nonneg n (D +ℤ d) hn (omega (arith, sums)) in
    abs_le (m *ℤ b +ℤ n *ℤ d) (m *ℤ B +ℤ n *ℤ D) (omega (arith, sums, simp expand at k₁, simp expand at k₃))
    (omega (arith, sums, simp expand at k₂, simp expand at k₄))

held_mixed : (p q m n a c B D S : ℤ) → pos 0 ≼ m → pos 0 ≼ n → pos 0 ≼ q → q *ℤ B ≼ p *ℤ a → q *ℤ D ≼ p *ℤ c →
    S ≼ m *ℤ B +ℤ n *ℤ D → q *ℤ S ≼ p *ℤ (m *ℤ a +ℤ n *ℤ c)
held_mixed p q m n a c B D S hm hn hq h k l =
    let k₁ = mul_nonneg m (p *ℤ a -ℤ q *ℤ B) hm (omega (arith, sums)) in
    let k₂ = mul_nonneg n (p *ℤ c -ℤ q *ℤ D) hn (omega (arith, sums)) in
    let k₃ = mul_nonneg q (m *ℤ B +ℤ n *ℤ D -ℤ S) hq (omega (arith, sums)) in
    simp expand (omega (arith, sums, simp expand at k₁, simp expand at k₂, simp expand at k₃))

pressed_mixed : (m n a c : ℤ) → pos 0 ≼ m → pos 0 ≼ n → pos 0 ≼ a → pos 0 ≼ c → pos 0 ≼ m *ℤ a +ℤ n *ℤ c
pressed_mixed m n a c hm hn h k = omega (arith, sums, mul_nonneg m a hm h, mul_nonneg n c hn k)

in_cone-mixed : (z : SceneBearing) (f g : BearingPart) (m n : ℤ) → pos 0 ≼ z.q → pos 0 ≼ m → pos 0 ≼ n →
    IsWithinCone z f → IsWithinCone z g →
    IsWithinCone z (record { a = m *ℤ f.a +ℤ n *ℤ g.a; b = m *ℤ f.b +ℤ n *ℤ g.b })
in_cone-mixed z f g m n hq hm hn i j = record {
  pushes = pressed_mixed m n f.a g.a hm hn i.pushes j.pushes;
  within = held_mixed z.p z.q m n f.a g.a (abs f.b) (abs g.b) (abs (m *ℤ f.b +ℤ n *ℤ g.b))
      hm hn hq i.within j.within
      (abs_mixed m n f.b g.b (abs f.b) (abs g.b) hm hn (abs_bounds f.b).0 (abs_bounds f.b).1
      (abs_bounds g.b).0 (abs_bounds g.b).1);
}

pub admissible_mixed : (s : Scene) (f g : ℕ → BearingPart) (m n : ℤ) →
    ((k : ℕ) → k < s.bearings → pos 0 ≼ (s.bearing k).q) → pos 0 ≼ m → pos 0 ≼ n → IsAdmissible s f →
    IsAdmissible s g → IsAdmissible s (mixed m n f g)
admissible_mixed s f g m n hq hm hn p q k l = in_cone-mixed (s.bearing k) (f k) (g k) m n (hq k l) hm hn
    (p k l) (q k l)
