-- What the certificates of a share say of the structure itself.
use mathlib.Core.Path.{◌≡◌, sym, subst₂, ◌∙◌}
use Prim.Native.Nat.{ℕ}
use native.Mathlib.Omega.{arith}
use lib.IntN.{ℤ, pos, ◌+ℤ◌, ◌-ℤ◌, ◌*ℤ◌}
use Rattle.stack_algebra.proofs.Integers.{expand, sums}
use Rattle.stack_algebra.proofs.Order.{◌≼◌, ◌≺◌, mul_pos, mul_nonneg}
use Rattle.stack_algebra.proofs.CrossProducts.{positive_cancel}
use Rattle.stack_statics.specs.Scene.{BearingPart, Scene, IsProper}
use Rattle.stack_statics.specs.Balance.{IsBalanced, Carries}
use Rattle.stack_statics.specs.Certificates.{scene_part_at}
use Rattle.stack_statics.specs.Shares.{share_of, StandingShareIsCarried, FallingShareIsNotCarried, CarriedHasNoGaps}
use Rattle.stack_statics.specs.Shares.{NothingAboveIsCarried}
use Rattle.stack_statics.proofs.CertificateLaws.{collapse_excludes_balance}
use Rattle.stack_statics.proofs.Mixtures.{mixed, balanced_mixed, admissible_mixed}

-- the loads of a share times k are k * D times the dead and k * N times the live loads
share_sum : (sum k N D dead live : ℤ) →
    sum +ℤ k *ℤ (D *ℤ dead +ℤ N *ℤ live) +ℤ pos 0 *ℤ pos 0 ≡ sum +ℤ k *ℤ D *ℤ dead +ℤ k *ℤ N *ℤ live
share_sum sum k N D dead live = simp expand (omega (arith, sums))

of_share : (s : Scene) (f : ℕ → BearingPart) (k N D : ℤ) → IsBalanced (share_of s N D) f k (pos 0) →
    IsBalanced s f (k *ℤ D) (k *ℤ N)
of_share s f k N D h i l t = record {
  along_x = sym (share_sum _ k N D (s.body i).dead.fx (s.body i).live.fx) ∙ (h i l t).along_x;
  along_y = sym (share_sum _ k N D (s.body i).dead.fy (s.body i).live.fy) ∙ (h i l t).along_y;
  about = sym (share_sum _ k N D (s.body i).dead.m (s.body i).live.m) ∙ (h i l t).about;
}

to_share : (s : Scene) (f : ℕ → BearingPart) (k N D : ℤ) → IsBalanced s f (k *ℤ D) (k *ℤ N) →
    IsBalanced (share_of s N D) f k (pos 0)
to_share s f k N D h i l t = record {
  along_x = share_sum _ k N D (s.body i).dead.fx (s.body i).live.fx ∙ (h i l t).along_x;
  along_y = share_sum _ k N D (s.body i).dead.fy (s.body i).live.fy ∙ (h i l t).along_y;
  about = share_sum _ k N D (s.body i).dead.m (s.body i).live.m ∙ (h i l t).about;
}

pub standing_share_is_carried : StandingShareIsCarried
standing_share_is_carried s N D f h = record {
  k = f.scale;
  parts = scene_part_at f;
  positive = h.scale_positive;
  admissible = h.forces.admissible;
  balanced = of_share s (scene_part_at f) f.scale N D
      (subst₂ (IsBalanced (share_of s N D) (scene_part_at f)) (λ i. f.scale) h.factor_zero h.forces.balanced);
}

-- the share stands where the factor is carried
share_carried : (s : Scene) (N D : ℤ) → Carries s N D → Carries (share_of s N D) (pos 0) (pos 1)
share_carried s N D c = record {
  k = c.k;
  parts = c.parts;
  positive = c.positive;
  admissible = c.admissible;
  balanced = subst₂ (IsBalanced (share_of s N D) c.parts) (one_right c.k) (zero_right c.k)
      (to_share s c.parts c.k N D c.balanced);
}
  where
    one_right : (x : ℤ) → x ≡ x *ℤ pos 1
    one_right x = simp expand (omega (arith, sums))

    zero_right : (x : ℤ) → pos 0 ≡ x *ℤ pos 0
    zero_right x = simp expand (omega (arith, sums))

-- a share has the bearings of its scene
share_proper : (s : Scene) (N D : ℤ) → IsProper s → IsProper (share_of s N D)
share_proper s N D proper k l = record {
  second_exists = (proper k l).second_exists;
  first_before_second = (proper k l).first_before_second;
  denominator_positive = (proper k l).denominator_positive;
  numerator_nonneg = (proper k l).numerator_nonneg;
}

pub falling_share_is_not_carried : FallingShareIsNotCarried
falling_share_is_not_carried s N D moves proper c h =
    collapse_excludes_balance (share_of s N D) moves (pos 1) (share_proper s N D proper) c (omega (arith, sums))
    (share_carried s N D h)

-- L over D is below L' over D', where a factor lies between them
apart : (L D N E L' D' : ℤ) → pos 0 ≺ D → pos 0 ≺ E → pos 0 ≺ D' → L *ℤ E ≼ N *ℤ D → N *ℤ D' ≺ L' *ℤ E →
    pos 0 ≺ L' *ℤ D -ℤ L *ℤ D'
apart L D N E L' D' hd he hd' h m =
    let a = mul_nonneg D' (N *ℤ D -ℤ L *ℤ E) (omega (arith, sums)) (omega (arith, sums)) in
    let b = mul_pos D (L' *ℤ E -ℤ N *ℤ D') hd (omega (arith, sums)) in
    positive_cancel E (L' *ℤ D -ℤ L *ℤ D') he (simp expand (omega (arith, sums, simp expand at a, simp expand at b)))

pub carried_has_no_gaps : CarriedHasNoGaps
carried_has_no_gaps s L D N E L' D' proper hd he hd' c low high c' = record {
  k = c.k *ℤ c'.k *ℤ (L' *ℤ D -ℤ L *ℤ D');
  parts = mixed m n c.parts c'.parts;
  positive = mul_pos (c.k *ℤ c'.k) (L' *ℤ D -ℤ L *ℤ D') (mul_pos c.k c'.k c.positive c'.positive)
      (apart L D N E L' D' hd he hd' low high);
  admissible = admissible_mixed s c.parts c'.parts m n (λ k l. omega (arith, sums, (proper k l).denominator_positive))
      (mul_nonneg c'.k (L' *ℤ E -ℤ N *ℤ D') (omega (arith, sums, c'.positive)) (omega (arith, sums)))
      (mul_nonneg c.k (N *ℤ D -ℤ L *ℤ E) (omega (arith, sums, c.positive)) (omega (arith, sums)))
      c.admissible c'.admissible;
  balanced = subst₂ (IsBalanced s (mixed m n c.parts c'.parts)) (scale c.k c'.k L D N E L' D')
      (factor c.k c'.k L D N E L' D')
      (balanced_mixed s c.parts c'.parts m n (c.k *ℤ D) (c.k *ℤ L) (c'.k *ℤ D') (c'.k *ℤ L') c.balanced c'.balanced);
}
  where
    m : ℤ
    m = c'.k *ℤ (L' *ℤ E -ℤ N *ℤ D')

    n : ℤ
    n = c.k *ℤ (N *ℤ D -ℤ L *ℤ E)

    scale : (k k' L D N E L' D' : ℤ) →
        k' *ℤ (L' *ℤ E -ℤ N *ℤ D') *ℤ (k *ℤ D) +ℤ k *ℤ (N *ℤ D -ℤ L *ℤ E) *ℤ (k' *ℤ D')
        ≡ k *ℤ k' *ℤ (L' *ℤ D -ℤ L *ℤ D') *ℤ E
    scale k k' L D N E L' D' = simp expand (omega (arith, sums))

    factor : (k k' L D N E L' D' : ℤ) →
        k' *ℤ (L' *ℤ E -ℤ N *ℤ D') *ℤ (k *ℤ L) +ℤ k *ℤ (N *ℤ D -ℤ L *ℤ E) *ℤ (k' *ℤ L')
        ≡ k *ℤ k' *ℤ (L' *ℤ D -ℤ L *ℤ D') *ℤ N
    factor k k' L D N E L' D' = simp expand (omega (arith, sums))

pub nothing_above_is_carried : NothingAboveIsCarried
nothing_above_is_carried s L D N E proper hd he c low fails L' D' hd' high c' =
    fails (carried_has_no_gaps s L D N E L' D' proper hd he hd' c low high c')
