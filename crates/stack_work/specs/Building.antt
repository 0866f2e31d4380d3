-- The work on `stages MODEL ORDER [PIVOTS]`: the survey of the model, the order's file and its text, and the judgement
-- of one stage after the other.
use Rattle.std.specs.Prelude.{ℕ, List, Result, Ok, Err}
use Rattle.stack_contact.specs.Surveyed.{Surveyed}
use Rattle.stack_stages.specs.Stage.{stage}
use Rattle.stack_orders.specs.OrderRead.{told_order}
use Rattle.stack_stages.specs.Staged.{Staged, all_stand, falls, too_wide_at, spent_at, no_stages, staged}
use Rattle.stack_lines.specs.declared.refusal.Input.TheVariants as inputs
use Rattle.stack_lines.specs.declared.refusal.Within.TheVariants.{Stage}
use Rattle.stack_lines.specs.Refusals.{order_line, over_budget, memory}
use Rattle.stack_work.specs.Answers.{Due, stages_due}
use Rattle.stack_work.specs.Judging.{wide_within}
use Rattle.stack_work.specs.Work.{Work, gives, refuses, ◌>>=◌}
use Rattle.stack_work.specs.Surveying.{read, surveyed_file}

-- A text gives an order, or is refused with its first faulty line.
abbrev pub order_step : Result (List ℕ) ℕ → Work (List ℕ)
order_step (Ok order) = gives order
order_step (Err number) = refuses (order_line number)

-- That all stand and that one falls are both answers; a number that is too wide and a budget that is spent are refused.
-- The blocks of a stage go by the stage's own numbers. The last case never comes.
abbrev pub stages_step : (budget : ℕ) → Surveyed → List ℕ → Staged → Work Due
stages_step budget v order (all_stand fs) = gives (stages_due v order (all_stand fs))
stages_step budget v order (falls fs m) = gives (stages_due v order (falls fs m))
stages_step budget v order (too_wide_at k p) = refuses (wide_within (Stage k) (stage v.structure order k) p)
stages_step budget v order (spent_at k) = refuses (over_budget budget)
stages_step budget v order no_stages = refuses memory

-- An order's text, up to the outcome of its stages.
abbrev pub order_work : (budget : ℕ) → Surveyed → List ℕ → Work Due
order_work budget survey text = do
  order ← order_step (told_order survey.structure text)
  stages_step budget survey order (staged survey order budget)

-- The order's file is read, and the stages of its order are judged.
unfoldable pub ordered_file : List ℕ → (budget : ℕ) → Surveyed → Work Due
ordered_file name budget survey = do
  text ← read inputs.Order name
  order_work budget survey text

-- The model comes first: unless it has a survey, the order's file isn't asked for.
unfoldable pub stages_work : List ℕ → List ℕ → (budget : ℕ) → Work Due
stages_work model order budget = do
  survey ← surveyed_file model
  ordered_file order budget survey
