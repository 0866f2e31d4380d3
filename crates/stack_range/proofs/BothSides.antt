-- What comes of a range is what comes of its sides, and nothing is left over.
use mathlib.Core.Path.{◌≡◌, refl, sym, subst, ap, ◌∙◌}
use Prim.Native.Nat.{ℕ}
use lib.IntN.{pos}
use Rattle.stack_equilibrium.proofs.Common.{Carries, IsProper, MotionValue, Surveyed, collapses, greatest, scene_of}
use Rattle.stack_equilibrium.proofs.Common.{stands, unbounded}
use Rattle.stack_equilibrium.specs.declared.types.Question.TheVariants.{Live}
use Rattle.stack_judge.specs.Judgement.{Judgement, certified, too_wide, spent, unjudged}
use Rattle.stack_judge.proofs.EachJudged.{each_end_is_judged}
use Rattle.stack_judge.proofs.JudgedValues.{of_the_question, are_certified}
use Rattle.stack_range.specs.declared.types.Side.TheVariants.{Greatest, Least}
use Rattle.stack_range.specs.Reversed.{reversed_survey}
use Rattle.stack_range.specs.CarriedFactors.{EndValue, at, unlimited, range_end_certificate}
use Rattle.stack_range.specs.Ranged.{collapsing, between, side_judgement}
use Rattle.stack_range.specs.RangeJudgement.{RangeJudgement, told, wide_on, spent_on, no_range, by_least, by_sides}
use Rattle.stack_range.specs.RangeJudgement.{range_judgement, AreSides}
use Rattle.stack_range.specs.Laws.{RangesAreBySides}
use Rattle.stack_range.proofs.AsJudgement.{on_least, told_both}
use Rattle.stack_range.proofs.Exact.{proper_too}
use Rattle.stack_range.proofs.ReversedScenes.{reversed_scenes_are_theirs, reversal_turns_factors}

module _ (v : Surveyed) (budget : ℕ) (proper : IsProper (scene_of v)) where
  -- where the dead loads stand, the reversed structure doesn't collapse
  never_falls : Carries (scene_of v) (pos 0) (pos 1) → (y : MotionValue)
      → side_judgement Least v budget ≡ certified (collapses y) → ⊥
  never_falls c y e =
      let p = subst IsProper (sym (reversed_scenes_are_theirs v)) (proper_too (scene_of v) proper) in
      (are_certified Live (reversed_survey v) budget (collapses y) p e).dead_loads
      ((reversal_turns_factors v (pos 0) (pos 1)).0 c)

  -- where the greatest side has an end, the least side decides
  by_end : (high : EndValue) → Carries (scene_of v) (pos 0) (pos 1)
      → side_judgement Greatest v budget ≡ certified (range_end_certificate high) → (two : Judgement)
      → side_judgement Least v budget ≡ two → AreSides v budget (by_least high two)
  by_end high c g (certified (greatest f y)) e = (g, e)
  by_end high c g (certified (unbounded base ray)) e = (g, e)
  by_end high c g (certified (collapses y)) e = never_falls c y e
  by_end high c g (certified (stands f)) e = of_the_question Live (reversed_survey v) budget (stands f) e
  by_end high c g (too_wide p) e = ((high, g), e)
  by_end high c g spent e = ((high, g), e)
  by_end high c g unjudged e = each_end_is_judged Live (reversed_survey v) budget e

  by_both : (one two : Judgement) → side_judgement Greatest v budget ≡ one → side_judgement Least v budget ≡ two
      → AreSides v budget (by_sides one two)
  by_both (certified (greatest f y)) two g e =
      by_end (at f y) (are_certified Live v budget (greatest f y) proper g).dead_loads g two e
  by_both (certified (unbounded base ray)) two g e =
      by_end (unlimited base ray) (are_certified Live v budget (unbounded base ray) proper g).dead_loads g two e
  by_both (certified (collapses y)) two g e = g
  by_both (certified (stands f)) two g e = of_the_question Live v budget (stands f) g
  by_both (too_wide p) two g e = (tt, g)
  by_both spent two g e = (tt, g)
  by_both unjudged two g e = each_end_is_judged Live v budget g

  -- what sides say is their judgement
  as_one : (j : RangeJudgement) → AreSides v budget j → range_judgement v budget ≡ j
  as_one (told (collapsing y)) h = ap (λ j. by_sides j (side_judgement Least v budget)) h
  as_one (told (between low high)) h = on_least high _ _ h.0 ∙ told_both low high _ h.1
  as_one (wide_on Greatest p) h = ap (λ j. by_sides j (side_judgement Least v budget)) h.1
  as_one (wide_on Least p) h = on_least h.0.0 _ _ h.0.1 ∙ ap (by_least h.0.0) h.1
  as_one (spent_on Greatest) h = ap (λ j. by_sides j (side_judgement Least v budget)) h.1
  as_one (spent_on Least) h = on_least h.0.0 _ _ h.0.1 ∙ ap (by_least h.0.0) h.1
  as_one no_range h = absurd h

pub ranges_are_by_sides : RangesAreBySides
ranges_are_by_sides v budget j proper = (
  λ e. subst (AreSides v budget) e
      (by_both v budget proper (side_judgement Greatest v budget) (side_judgement Least v budget) refl refl),
  as_one v budget proper j,
)
