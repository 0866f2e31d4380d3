-- What lies between two factors that are carried is carried.
use mathlib.Core.Path.{◌≡◌, subst₂}
use native.Mathlib.Omega.{arith}
use lib.IntN.{ℤ, pos, ◌+ℤ◌, ◌-ℤ◌, ◌*ℤ◌}
use Rattle.std.proofs.lemmas.Int.{by_lt_z}
use Rattle.stack_equilibrium.proofs.Common.{Carries, IsBalanced, IsProper, Scene, expand, mixed, mul_nonneg, mul_pos}
use Rattle.stack_equilibrium.proofs.Common.{sums, ◌≺◌, ◌≼◌}
use Rattle.stack_statics.proofs.Mixtures.{balanced_mixed, admissible_mixed}
use Rattle.stack_range.specs.Laws.{WhatLiesBetweenIsCarried}

-- v times one and w times the other
mixture : (s : Scene) (L D L' D' v w : ℤ) → IsProper s → pos 0 ≼ v → pos 0 ≼ w → Carries s L D → Carries s L' D' →
    Carries s (v *ℤ L +ℤ w *ℤ L') (v *ℤ D +ℤ w *ℤ D')
mixture s L D L' D' v w proper hv hw c d = record {
  k = d.k *ℤ c.k;
  parts = mixed (d.k *ℤ v) (c.k *ℤ w) c.parts d.parts;
  positive = mul_pos d.k c.k d.positive c.positive;
  admissible = admissible_mixed s c.parts d.parts (d.k *ℤ v) (c.k *ℤ w)
      (λ k l. omega (arith, sums, (proper k l).denominator_positive))
      (mul_nonneg d.k v (omega (arith, sums, d.positive)) hv) (mul_nonneg c.k w (omega (arith, sums, c.positive)) hw)
      c.admissible d.admissible;
  balanced = subst₂ (IsBalanced s (mixed (d.k *ℤ v) (c.k *ℤ w) c.parts d.parts))
      (same d.k c.k v w D D') (same d.k c.k v w L L')
      (balanced_mixed s c.parts d.parts (d.k *ℤ v) (c.k *ℤ w) (c.k *ℤ D) (c.k *ℤ L) (d.k *ℤ D') (d.k *ℤ L')
      c.balanced d.balanced);
}
  where
    same : (j k v w D D' : ℤ) → j *ℤ v *ℤ (k *ℤ D) +ℤ k *ℤ w *ℤ (j *ℤ D') ≡ j *ℤ k *ℤ (v *ℤ D +ℤ w *ℤ D')
    same j k v w D D' = simp expand (omega (arith, sums))

-- a factor in lower terms
lower : (s : Scene) (c N E : ℤ) → pos 0 ≺ c → Carries s (c *ℤ N) (c *ℤ E) → Carries s N E
lower s c N E hc h = record {
  k = h.k *ℤ c;
  parts = h.parts;
  positive = mul_pos h.k c h.positive hc;
  admissible = h.admissible;
  balanced = subst₂ (IsBalanced s h.parts) (same h.k c E) (same h.k c N) h.balanced;
}
  where
    same : (k c E : ℤ) → k *ℤ (c *ℤ E) ≡ k *ℤ c *ℤ E
    same k c E = simp expand (omega (arith, sums))

-- c is positive, as c * E = a * D + b * D' is
positive_part : (L D L' D' N E : ℤ) → pos 0 ≺ D → pos 0 ≺ D' → pos 0 ≺ E → pos 0 ≼ L' *ℤ E -ℤ N *ℤ D' →
    pos 0 ≺ N *ℤ D -ℤ L *ℤ E → pos 0 ≺ L' *ℤ D -ℤ L *ℤ D'
positive_part L D L' D' N E hd hd' he ha hb = by_lt_z (pos 0) (L' *ℤ D -ℤ L *ℤ D') (λ p. p) go
  where
    go : L' *ℤ D -ℤ L *ℤ D' ≼ pos 0 → pos 0 ≺ L' *ℤ D -ℤ L *ℤ D'
    go q =
        let k₁ = mul_nonneg (pos 0 -ℤ (L' *ℤ D -ℤ L *ℤ D')) E (omega (arith, sums)) (omega (arith, sums)) in
        let k₂ = mul_nonneg (L' *ℤ E -ℤ N *ℤ D') D ha (omega (arith, sums)) in
        let k₃ = mul_pos (N *ℤ D -ℤ L *ℤ E) D' hb hd' in
        absurd (omega (arith, sums, simp expand at k₁, simp expand at k₂, simp expand at k₃))

-- the mixture whose factor is N over E; where both are the first factor, that alone
pub what_lies_between_is_carried : WhatLiesBetweenIsCarried
what_lies_between_is_carried s L D L' D' N E proper hd hd' he low high c d =
    by_lt_z (pos 0) (N *ℤ D -ℤ L *ℤ E)
    (λ b. lower s (L' *ℤ D -ℤ L *ℤ D') N E (positive_part L D L' D' N E hd hd' he (omega (arith, sums)) b)
    (subst₂ (Carries s) (both L D L' D' N E) (same L D L' D' N E)
    (mixture s L D L' D' (L' *ℤ E -ℤ N *ℤ D') (N *ℤ D -ℤ L *ℤ E) proper (omega (arith, sums))
    (omega (arith, sums)) c d)))
    (λ b. lower s D N E hd (subst₂ (Carries s) (one N D L E low b) (alone E D)
    (mixture s L D L D E (pos 0) proper (omega (arith, sums)) (omega (arith, sums)) c c)))
  where
    both : (L D L' D' N E : ℤ) → (L' *ℤ E -ℤ N *ℤ D') *ℤ L +ℤ (N *ℤ D -ℤ L *ℤ E) *ℤ L' ≡ (L' *ℤ D -ℤ L *ℤ D') *ℤ N
    both L D L' D' N E = simp expand (omega (arith, sums))

    same : (L D L' D' N E : ℤ) → (L' *ℤ E -ℤ N *ℤ D') *ℤ D +ℤ (N *ℤ D -ℤ L *ℤ E) *ℤ D' ≡ (L' *ℤ D -ℤ L *ℤ D') *ℤ E
    same L D L' D' N E = simp expand (omega (arith, sums))

    one : (N D L E : ℤ) → L *ℤ E ≼ N *ℤ D → N *ℤ D -ℤ L *ℤ E ≼ pos 0 → E *ℤ L +ℤ pos 0 *ℤ L ≡ D *ℤ N
    one N D L E l g = simp expand (omega (arith, sums, l, g))

    alone : (E D : ℤ) → E *ℤ D +ℤ pos 0 *ℤ D ≡ D *ℤ E
    alone E D = simp expand (omega (arith, sums))
