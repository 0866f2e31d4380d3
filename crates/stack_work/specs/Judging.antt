-- The work on `stand MODEL [PIVOTS]` and `load MODEL [PIVOTS]`: the survey of the model, for `load` the test for a live
-- load, the judgement.
use Rattle.std.specs.Prelude.{ℕ, List, Bool, false, not, if◌then◌else◌}
use Rattle.stack_model.specs.Structure.{Structure, lists_live}
use Rattle.stack_contact.specs.Surveyed.{Surveyed}
use Rattle.stack_equilibrium.specs.declared.types.Question.{Question}
use Rattle.stack_equilibrium.specs.declared.types.Question.TheVariants.{Dead, Live}
use Rattle.stack_judge.specs.declared.types.JudgePlace.{JudgePlace}
use Rattle.stack_judge.specs.declared.types.JudgePlace.TheVariants as places
use Rattle.stack_judge.specs.Judgement.{Judgement, certified, too_wide, spent, unjudged, judgement}
use Rattle.stack_lines.specs.declared.refusal.Within.{Within}
use Rattle.stack_lines.specs.declared.refusal.Within.TheVariants.{Whole}
use Rattle.stack_lines.specs.Refusals.{Fault, wide_check, wide_run, wide_end, over_budget, no_live, memory}
use Rattle.stack_work.specs.Answers.{Due, certificate}
use Rattle.stack_lines.specs.CheckText.{place_of}
use Rattle.stack_work.specs.Work.{Work, gives, refuses, ◌>>=◌}
use Rattle.stack_work.specs.Surveying.{surveyed_file}

-- A budget of pivots that isn't given.
abbrev pub default_budget : ℕ
default_budget = 20000

-- The question is about live loads, and none is listed.
abbrev pub lacks_live : Question → Structure → Bool
lacks_live Dead s = false
lacks_live Live s = not (lists_live s)

-- A number of one of a form's judgements that is too wide is named by where it is: in the run, in what is made of its
-- end, in the check.
abbrev pub wide_within : Within → Structure → JudgePlace → Fault
wide_within w s (places.Run p) = wide_run w p
wide_within w s (places.End p) = wide_end w p
wide_within w s (places.Check p) = wide_check w p.part (place_of s p.at)

-- That of the only judgement.
abbrev pub wide_fault : Structure → JudgePlace → Fault
wide_fault s p = wide_within Whole s p

-- A certificate is given out; a number that is too wide and a budget that is spent are refused. No end is left
-- unjudged.
abbrev pub judged_step : Question → (budget : ℕ) → Surveyed → Judgement → Work Due
judged_step q budget v (certified c) = gives (certificate q v c)
judged_step q budget v (too_wide p) = refuses (wide_fault v.structure p)
judged_step q budget v spent = refuses (over_budget budget)
judged_step q budget v unjudged = refuses memory

-- If live loads are asked about and none is listed, nothing is judged.
abbrev pub judged : Question → (budget : ℕ) → Surveyed → Work Due
judged q budget v = if lacks_live q v.structure then refuses no_live else judged_step q budget v (judgement q v budget)

-- The model's file is surveyed, and then its question is judged.
unfoldable pub judge_work : Question → List ℕ → (budget : ℕ) → Work Due
judge_work q model budget = do
  survey ← surveyed_file model
  judged q budget survey
