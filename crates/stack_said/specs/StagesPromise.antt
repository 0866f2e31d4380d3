-- What `stages MODEL ORDER [PIVOTS]` promises, on the survey of its model, if the order's file has these bytes.
use Rattle.std.specs.Prelude.{◌≡◌, ℕ, suc, ◌<◌, List, Result, Ok, Err, length}
use Rattle.stack_contact.specs.Surveyed.{Surveyed}
use Rattle.stack_certificate.specs.Certificate.{ForcesValue, MotionValue, collapses}
use Rattle.stack_judge.specs.declared.types.JudgePlace.{JudgePlace}
use Rattle.stack_judge.specs.Judgement.{certified, too_wide, spent}
use Rattle.stack_orders.specs.OrderRead.{told_order}
use Rattle.stack_stages.specs.Stage.{stage}
use Rattle.stack_stages.specs.Staged.{all_stand, falls, IsFirstStage, AllAreJudged, StandAndFall}
use Rattle.stack_lines.specs.declared.refusal.Input.TheVariants as inputs
use Rattle.stack_lines.specs.declared.refusal.Within.TheVariants.{Stage}
use Rattle.stack_lines.specs.Refusals.{Fault, long, order_line, over_budget}
use Rattle.stack_work.specs.Answers.{Due, stages_due}
use Rattle.stack_work.specs.Judging.{wide_within}
use Rattle.stack_work.specs.Surveying.{greatest_file}
use Rattle.stack_said.specs.Promise.{IsShort, Promise}

-- Each stage of an order stands; this stage, counted from 1, is the first that doesn't, and collapses; the order's file
-- is too long; the order has this first faulty line; this stage is the first that isn't judged to stand, and a number
-- of it is too wide, or its budget is spent.
pub data StagesCase : Type 0 where
  each_stands : (order : List ℕ) → StagesCase
  one_falls : (order : List ℕ) → (k : ℕ) → MotionValue → StagesCase
  is_long : StagesCase
  is_faulty : (number : ℕ) → StagesCase
  is_wide : (order : List ℕ) → (k : ℕ) → JudgePlace → StagesCase
  is_spent : (order : List ℕ) → (k : ℕ) → StagesCase

abbrev pub stages_status : StagesCase → ℕ
stages_status (each_stands order) = 0
stages_status (one_falls order k m) = 1
stages_status is_long = 4
stages_status (is_faulty number) = 13
stages_status (is_wide order k p) = 7
stages_status (is_spent order k) = 8

module _ (text : List ℕ) (budget : ℕ) where
  -- The text isn't too long, and gives this order.
  abbrev pub TellsOrder : Surveyed → List ℕ → Type 0
  TellsOrder v order = IsShort text × (told_order v.structure text ≡ Ok order)

  -- When each comes.
  abbrev pub StagesCome : Surveyed → StagesCase → Type 0
  StagesCome v (each_stands order) = TellsOrder v order × AllAreJudged v order budget
  StagesCome v (one_falls order k m) = TellsOrder v order × IsFirstStage v order budget k (certified (collapses m))
  StagesCome v is_long = greatest_file < length text
  StagesCome v (is_faulty number) = IsShort text × (told_order v.structure text ≡ Err number)
  StagesCome v (is_wide order k p) = TellsOrder v order × IsFirstStage v order budget k (too_wide p)
  StagesCome v (is_spent order k) = TellsOrder v order × IsFirstStage v order budget k spent

  -- What is due, and what it means: forces for each stage, and the dead loads of all stages are carried; forces for the
  -- stages before one and its motion, and its own dead loads aren't carried at any scale; or a fault's line.
  abbrev pub IsStagesDue : Surveyed → StagesCase → Result Due Fault → Type 0
  IsStagesDue v (each_stands order) e = (fs : List ForcesValue) × StandAndFall v order (all_stand fs)
      × (e ≡ Ok (stages_due v order (all_stand fs)))
  IsStagesDue v (one_falls order k m) e =
      (fs : List ForcesValue) × (k ≡ suc (length fs)) × StandAndFall v order (falls fs m)
      × (e ≡ Ok (stages_due v order (falls fs m)))
  IsStagesDue v is_long e = e ≡ Err (long inputs.Order)
  IsStagesDue v (is_faulty number) e = e ≡ Err (order_line number)
  IsStagesDue v (is_wide order k p) e = e ≡ Err (wide_within (Stage k) (stage v.structure order k) p)
  IsStagesDue v (is_spent order k) e = e ≡ Err (over_budget budget)

  abbrev pub stages_promise : Promise Surveyed
  stages_promise = record {
    Case = StagesCase;
    IsStatus = λ x n. n ≡ stages_status x;
    Comes = StagesCome;
    IsDue = IsStagesDue;
  }
