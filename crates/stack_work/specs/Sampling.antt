-- The work on `sample N`: wall N, its survey, the judgement of its live load, and a summary of that.
use Rattle.std.specs.Prelude.{ℕ, Result}
use Rattle.stack_model.specs.Structure.{Structure}
use Rattle.stack_contact.specs.Surveyed.{Surveyed}
use Rattle.stack_equilibrium.specs.declared.types.Question.TheVariants.{Live}
use Rattle.stack_judge.specs.Judgement.{Judgement, certified, too_wide, spent, unjudged, judgement}
use Rattle.stack_judge.specs.NarrowWork.{is_narrow}
use Rattle.stack_overhang.specs.declared.error.StackError.{StackError}
use Rattle.stack_overhang.specs.Gives.{sized}
use Rattle.stack_overhang.specs.Wall.{wall_of}
use Rattle.stack_work.specs.Judging.{default_budget, wide_fault}
use Rattle.stack_lines.specs.Refusals.{over_budget, memory}
use Rattle.stack_work.specs.Answers.{Due, summary}
use Rattle.stack_work.specs.Stacking.{built_step}
use Rattle.stack_work.specs.Work.{Work, gives, refuses, surveys, ◌>>=◌}
use Rattle.stack_work.specs.Surveying.{survey_step}

-- The structure of a wall with a number within its limits.
abbrev pub sample_of : ℕ → Result Structure StackError
sample_of number = sized 0 999999 number (wall_of number)

-- A certificate is summed up, with whether 64 bits are enough for its table and run; else it refuses. No
-- end is left unjudged.
abbrev pub sample_step : ℕ → Surveyed → Judgement → Work Due
sample_step number v (certified c) = gives (summary number v c (is_narrow Live v default_budget))
sample_step number v (too_wide p) = refuses (wide_fault v.structure p)
sample_step number v spent = refuses (over_budget default_budget)
sample_step number v unjudged = refuses memory

-- The live load of the wall is judged, within the budget of words that give none.
abbrev pub sampled : ℕ → Surveyed → Work Due
sampled number v = sample_step number v (judgement Live v default_budget)

-- The survey of a structure, and its sample.
abbrev pub wall_sampled : ℕ → Structure → Work Due
wall_sampled number s = surveys s (survey_step s) >>= sampled number

-- The wall with this number is built, if there is one, and then surveyed and judged.
unfoldable pub sample_work : ℕ → Work Due
sample_work number = do
  s ← built_step (sample_of number)
  wall_sampled number s
