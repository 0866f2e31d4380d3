-- The work on `range MODEL [PIVOTS]`: the survey of the model, the test for a live load, the judgement of the range.
use Rattle.std.specs.Prelude.{ℕ, List, if◌then◌else◌}
use Rattle.stack_contact.specs.Surveyed.{Surveyed}
use Rattle.stack_equilibrium.specs.declared.types.Question.TheVariants.{Live}
use Rattle.stack_range.specs.declared.types.Side.{Side}
use Rattle.stack_range.specs.declared.types.Side.TheVariants.{Greatest, Least}
use Rattle.stack_range.specs.RangeJudgement.{RangeJudgement, told, wide_on, spent_on, no_range, range_judgement}
use Rattle.stack_lines.specs.declared.refusal.Within.{Within}
use Rattle.stack_lines.specs.declared.refusal.Within.TheVariants.{Whole, LeastSide}
use Rattle.stack_lines.specs.Refusals.{over_budget, no_live, memory}
use Rattle.stack_work.specs.Answers.{Due, ranged}
use Rattle.stack_work.specs.Judging.{lacks_live, wide_within}
use Rattle.stack_work.specs.Work.{Work, gives, refuses, ◌>>=◌}
use Rattle.stack_work.specs.Surveying.{surveyed_file}

-- A number of the greatest side is named as `load` names its own, one of the least side with that word.
abbrev pub within_of : Side → Within
within_of Greatest = Whole
within_of Least = LeastSide

-- A range is given out; a number that is too wide and a budget that is spent are refused. The last case never comes.
abbrev pub range_step : (budget : ℕ) → Surveyed → RangeJudgement → Work Due
range_step budget v (told r) = gives (ranged v r)
range_step budget v (wide_on side p) = refuses (wide_within (within_of side) v.structure p)
range_step budget v (spent_on side) = refuses (over_budget budget)
range_step budget v no_range = refuses memory

-- If no live load is listed, nothing is judged.
abbrev pub range_told : (budget : ℕ) → Surveyed → Work Due
range_told budget v = if lacks_live Live v.structure then refuses no_live
    else range_step budget v (range_judgement v budget)

-- The model's file is surveyed, and then its range is judged.
unfoldable pub range_work : List ℕ → (budget : ℕ) → Work Due
range_work model budget = do
  survey ← surveyed_file model
  range_told budget survey
