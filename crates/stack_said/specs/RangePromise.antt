-- What `range MODEL [PIVOTS]` promises, on the survey of its model. A factor n/D, with D > 0, is carried if admissible
-- forces balance the dead loads with n/D times the live ones (`CarriesAt` of stack_range). An end is a greatest factor,
-- or unlimited. `low` is the end of the reversed model, so its factor has the other sign. The least side can't
-- collapse, since the dead loads stand.
use Rattle.std.specs.Prelude.{◌≡◌, ℕ, Result, Ok, Err}
use Rattle.stack_contact.specs.Surveyed.{Surveyed}
use Rattle.stack_equilibrium.specs.declared.types.Question.TheVariants.{Live}
use Rattle.stack_certificate.specs.Certificate.{MotionValue, collapses}
use Rattle.stack_judge.specs.declared.types.JudgePlace.{JudgePlace}
use Rattle.stack_judge.specs.Judgement.{certified, too_wide, spent, LacksLive}
use Rattle.stack_range.specs.declared.types.Side.{Side}
use Rattle.stack_range.specs.declared.types.Side.TheVariants.{Greatest, Least}
use Rattle.stack_checker.specs.Shown.{DeadLoadsFall}
use Rattle.stack_range.specs.CarriedFactors.{EndValue, range_end_certificate, AreCarriedBetween}
use Rattle.stack_range.specs.Ranged.{collapsing, between, side_judgement, IsReached}
use Rattle.stack_lines.specs.Refusals.{Fault, no_live, over_budget}
use Rattle.stack_work.specs.Answers.{Due, ranged}
use Rattle.stack_work.specs.Judging.{wide_within}
use Rattle.stack_work.specs.Ranging.{within_of}
use Rattle.stack_said.specs.Promise.{Promise}

-- Both sides are judged, each to an end; the dead loads collapse; no live load is listed; a number of a side is too
-- wide; the budget of a side is spent.
pub data RangeCase : Type 0 where
  has_ends : (low high : EndValue) → RangeCase
  falls : MotionValue → RangeCase
  has_no_live : RangeCase
  is_wide : Side → JudgePlace → RangeCase
  is_spent : Side → RangeCase

abbrev pub range_status : RangeCase → ℕ
range_status (has_ends low high) = 0
range_status (falls y) = 1
range_status has_no_live = 9
range_status (is_wide side p) = 7
range_status (is_spent side) = 8

module _ (budget : ℕ) where
  -- When each comes: the live load is looked for first, then the greatest side is judged, and if that has an end the
  -- least one.
  abbrev pub RangeComes : Surveyed → RangeCase → Type 0
  RangeComes v (has_ends low high) = (¬ (LacksLive Live v))
      × (side_judgement Greatest v budget ≡ certified (range_end_certificate high))
      × (side_judgement Least v budget ≡ certified (range_end_certificate low))
  RangeComes v (falls y) = (¬ (LacksLive Live v)) × (side_judgement Greatest v budget ≡ certified (collapses y))
  RangeComes v has_no_live = LacksLive Live v
  RangeComes v (is_wide side p) = (¬ (LacksLive Live v)) × IsReached side v budget
      × (side_judgement side v budget ≡ too_wide p)
  RangeComes v (is_spent side) = (¬ (LacksLive Live v)) × IsReached side v budget
      × (side_judgement side v budget ≡ spent)

  -- What is due, and what it means: both ends, and exactly the factors between them are carried; a collapse, and the
  -- dead loads aren't carried at any scale; or a fault's line.
  abbrev pub IsRangeDue : Surveyed → RangeCase → Result Due Fault → Type 0
  IsRangeDue v (has_ends low high) e = AreCarriedBetween v low high × (e ≡ Ok (ranged v (between low high)))
  IsRangeDue v (falls y) e = DeadLoadsFall v (collapses y) × (e ≡ Ok (ranged v (collapsing y)))
  IsRangeDue v has_no_live e = e ≡ Err no_live
  IsRangeDue v (is_wide side p) e = e ≡ Err (wide_within (within_of side) v.structure p)
  IsRangeDue v (is_spent side) e = e ≡ Err (over_budget budget)

  abbrev pub range_promise : Promise Surveyed
  range_promise = record {
    Case = RangeCase;
    IsStatus = λ x n. n ≡ range_status x;
    Comes = RangeComes;
    IsDue = IsRangeDue;
  }
