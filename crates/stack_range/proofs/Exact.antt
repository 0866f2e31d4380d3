-- True certificates of both sides tell exactly which factors are carried.
use mathlib.Core.Path.{◌≡◌, sym, subst, subst₂}
use native.Mathlib.Omega.{arith}
use lib.IntN.{ℤ, pos, ◌*ℤ◌, neg_ℤ}
use Rattle.std.proofs.lemmas.Int.{ints, by_lt_z}
use Rattle.stack_equilibrium.proofs.Common.{Carries, Certifies, IsBalanced, IsProper, IsTrueLoaded, Scene, SceneForces}
use Rattle.stack_equilibrium.proofs.Common.{expand, forces_of, greatest_is_carried, moves_of, scene_of, scene_part_at}
use Rattle.stack_equilibrium.proofs.Common.{sums, ◌≺◌, ◌≼◌}
use Rattle.stack_equilibrium.specs.Truth.{held}
use Rattle.stack_statics.proofs.CertificateLaws.{greatest_bounds_every_factor}
use Rattle.stack_statics.proofs.CertificateLaws.{unbounded_carries_above}
use Rattle.stack_range.specs.Reversed.{reversed_scene}
use Rattle.stack_range.specs.CarriedFactors.{EndValue, at, unlimited, range_end_certificate, IsWithinEnd}
use Rattle.stack_range.specs.Laws.{RangesAreExact}
use Rattle.stack_range.proofs.Between.{what_lies_between_is_carried}
use Rattle.stack_range.proofs.Turned.{scene_turns_factors}
use Rattle.stack_range.proofs.ReversedScenes.{reversed_scenes_are_theirs}

-- a carried factor that is at low n over D
record Reaches (s : Scene) (n D : ℤ) : Type 0 where
  pub factor : ℤ
  pub scale : ℤ
  pub positive : pos 0 ≺ scale
  pub above : n *ℤ scale ≼ factor *ℤ D
  pub carried : Carries s factor scale

-- forces of a true certificate carry their factor
loaded : (s : Scene) (f : SceneForces) → IsTrueLoaded s f → Carries s f.factor f.scale
loaded s f h = record {
  k = pos 1;
  parts = scene_part_at f;
  positive = omega (arith, sums);
  admissible = h.forces.admissible;
  balanced = subst₂ (IsBalanced s (scene_part_at f)) (sym (one_times f.scale)) (sym (one_times f.factor))
      h.forces.balanced;
}
  where
    one_times : (x : ℤ) → pos 1 *ℤ x ≡ x
    one_times x = simp expand (omega (arith, sums))

-- an end reaches each factor that is within it
reaches : (s : Scene) (e : EndValue) (n D : ℤ) → IsProper s → Certifies s (held (range_end_certificate e)) → pos 0 ≺ D →
    IsWithinEnd e n D → Reaches s n D
reaches s (at f y) n D proper h hd w = record {
  factor = f.factor;
  scale = f.scale;
  positive = h.loaded.scale_positive;
  above = w;
  carried = greatest_is_carried s (forces_of f) (moves_of y) h;
}
reaches s (unlimited base ray) n D proper h hd w = by_lt_z (base.factor *ℤ D) (n *ℤ base.scale)
    (λ l. record {
      factor = n;
      scale = D;
      positive = hd;
      above = omega (arith, ints);
      carried = unbounded_carries_above s (forces_of base) (forces_of ray) proper h n D hd (omega (arith, ints));
    })
    (λ l. record {
      factor = base.factor;
      scale = base.scale;
      positive = h.loaded.scale_positive;
      above = l;
      carried = loaded s (forces_of base) h.loaded;
    })

-- each factor that is carried is within the end
within : (s : Scene) (e : EndValue) (n D : ℤ) → IsProper s → Certifies s (held (range_end_certificate e)) →
    Carries s n D →
    IsWithinEnd e n D
within s (at f y) n D proper h c = by_lt_z (f.factor *ℤ D) (n *ℤ f.scale)
    (λ l. absurd (greatest_bounds_every_factor s (forces_of f) (moves_of y) proper h n D l c)) (λ l. l)
within s (unlimited base ray) n D proper h c = tt

-- the reversed scene has the same bearings
pub proper_too : (s : Scene) → IsProper s → IsProper (reversed_scene s)
proper_too s proper k l = let h = proper k l in record {
  second_exists = h.second_exists;
  first_before_second = h.first_before_second;
  denominator_positive = h.denominator_positive;
  numerator_nonneg = h.numerator_nonneg;
}

module _ (s : Scene) (low high : EndValue) (proper : IsProper s) (g : Certifies s (held (range_end_certificate high)))
    (l : Certifies (reversed_scene s) (held (range_end_certificate low))) (n D : ℤ) (hd : pos 0 ≺ D) where
  -- what is carried is within both ends
  forth : Carries s n D → IsWithinEnd high n D × IsWithinEnd low (neg_ℤ n) D
  forth c = (
    within s high n D proper g c,
    within (reversed_scene s) low (neg_ℤ n) D (proper_too s proper) l ((scene_turns_factors s n D).0 c),
  )

  -- what is within both ends lies between two factors that are carried
  back : IsWithinEnd high n D × IsWithinEnd low (neg_ℤ n) D → Carries s n D
  back w =
      let up = reaches s high n D proper g hd w.0 in
      let down = reaches (reversed_scene s) low (neg_ℤ n) D (proper_too s proper) l hd w.1 in
      what_lies_between_is_carried s (neg_ℤ down.factor) down.scale up.factor up.scale n D proper down.positive
      up.positive hd (below n D down.factor down.scale down.above) up.above
      ((scene_turns_factors s (neg_ℤ down.factor) down.scale).1
      (subst (λ m. Carries (reversed_scene s) m down.scale) (twice down.factor) down.carried)) up.carried
    where
      below : (n D f s : ℤ) → neg_ℤ n *ℤ s ≼ f *ℤ D → neg_ℤ f *ℤ D ≼ n *ℤ s
      below n D f s h = simp expand (omega (arith, sums, simp expand at h))

      twice : (f : ℤ) → f ≡ neg_ℤ (neg_ℤ f)
      twice f = omega (arith, ints)

-- what is carried is exactly what is within both ends, for the scene of a survey
pub ranges_are_exact : RangesAreExact
ranges_are_exact v low high proper g l n D hd =
    let t = subst (λ s. Certifies s (held (range_end_certificate low))) (reversed_scenes_are_theirs v) l in
    (forth (scene_of v) low high proper g t n D hd, back (scene_of v) low high proper g t n D hd)
