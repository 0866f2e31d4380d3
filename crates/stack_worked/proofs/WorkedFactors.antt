-- The factors that the worked scenes carry, from their true certificates.
use Rattle.std.proofs.Common.{◌≡◌, refl, arith}
use lib.IntN.{ℤ, pos, ◌*ℤ◌}
use Rattle.std.proofs.lemmas.Int.{ints}
use Rattle.stack_algebra.specs.IntegerOrder.{◌≼◌, ◌≺◌}
use Rattle.stack_equilibrium.proofs.Common.{IsProper, Scene, SceneBearing, Wrench, expand, sums}
use Rattle.stack_statics.specs.Scene.{IsProperBearing}
use Rattle.stack_statics.specs.Certificates.{IsTrueStands}
use Rattle.stack_statics.specs.Laws.{StandsIsCarried, CollapseExcludesBalance, GreatestIsCarried}
use Rattle.stack_statics.specs.Laws.{GreatestBoundsEveryFactor, UnboundedCarriesAll}
use Rattle.stack_worked.specs.Pieces.{standing_forces}
use Rattle.stack_worked.specs.Scenes.{post_scene, slope_scene, pressed_post, standing_parts}
use Rattle.stack_worked.specs.WorkedFactors.{FactorsOfWorkedScenes}
use Rattle.stack_worked.proofs.ClosedFacts.{below_two}
use Rattle.stack_worked.proofs.TrueScenes.{true_of_worked_scenes}

-- a bearing lies between the fixed body and the free one
joins_both : {s : Scene} {z : SceneBearing} → s.bodies ≡ 2 → z.first ≡ 0 → z.second ≡ 1 → pos 0 ≺ z.q
    → pos 0 ≼ z.p → IsProperBearing s z
joins_both n a b h k = record {
  second_exists = omega arith;
  first_before_second = omega arith;
  denominator_positive = h;
  numerator_nonneg = k;
}

post_is_proper : {p q : ℤ} {w : Wrench} → pos 0 ≺ q → pos 0 ≼ p → IsProper (post_scene p q w)
post_is_proper h k = below_two _ (joins_both refl refl refl h k) (joins_both refl refl refl h k)

slope_is_proper : {p q : ℤ} → pos 0 ≺ q → pos 0 ≼ p → IsProper (slope_scene p q)
slope_is_proper h k = below_two _ (joins_both refl refl refl h k) (joins_both refl refl refl h k)

over_one : (L n : ℤ) → n ≺ L → n ≺ L *ℤ pos 1
over_one L n h = let e : L *ℤ pos 1 ≡ L = simp expand (omega (arith, sums)) in omega (arith, sums, e, h)

-- without its pressure the pressed post stands
pressed_post_stands : IsTrueStands pressed_post (standing_forces standing_parts)
pressed_post_stands = record {
  scale_positive = omega (arith, ints);
  factor_zero = refl;
  forces = true_of_worked_scenes.post_bears_any_pressure.loaded.forces;
}

pub factors_of_worked_scenes : StandsIsCarried → CollapseExcludesBalance → GreatestIsCarried
    → GreatestBoundsEveryFactor → UnboundedCarriesAll → FactorsOfWorkedScenes
factors_of_worked_scenes stands collapse greatest bound all = record {
  post_carries_two = greatest _ _ _ true_of_worked_scenes.post_tips_at_two;
  post_carries_no_more = λ L D h. bound _ _ _ (post_is_proper (omega (arith, ints)) (omega (arith, ints)))
      true_of_worked_scenes.post_tips_at_two L D (over_one L (pos 2 *ℤ D) h);
  post_carries_any_pressure = all _ _ _ (post_is_proper (omega (arith, ints)) (omega (arith, ints)))
      true_of_worked_scenes.post_bears_any_pressure (stands _ _ pressed_post_stands);
  slope_carries_its_block = stands _ _ true_of_worked_scenes.block_just_holds;
  slick_slope_does_not = λ D. collapse _ _ D (slope_is_proper (omega (arith, ints)) (omega (arith, ints)))
      true_of_worked_scenes.block_slips;
}
