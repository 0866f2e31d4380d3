-- The work on a range comes down to one step.
use Rattle.std.proofs.Common.{◌≡◌, ap, ◌∙◌, ℕ, Bool}
use Rattle.std.specs.Prelude.{if◌then◌else◌}
use Rattle.stack_contact.specs.Surveyed.{Surveyed}
use Rattle.stack_equilibrium.specs.declared.types.Question.TheVariants.{Live}
use Rattle.stack_judge.specs.Judgement.{LacksLive}
use Rattle.stack_range.specs.RangeJudgement.{RangeJudgement, range_judgement}
use Rattle.stack_lines.specs.Refusals.{no_live}
use Rattle.stack_work.specs.Answers.{Due}
use Rattle.stack_work.specs.Work.{Work, refuses}
use Rattle.stack_work.specs.Ranging.{range_step, range_told}
use Rattle.stack_work.proofs.JudgementEnds.{lacking, not_lacking}

module _ (v : Surveyed) (budget : ℕ) where
  abbrev told_at : Bool → RangeJudgement → Work Due
  told_at b j = if b then refuses no_live else range_step budget v j

  -- with a live load, that of the judgement
  pub range_is : (j : RangeJudgement) → ¬ (LacksLive Live v) → range_judgement v budget ≡ j
      → range_told budget v ≡ range_step budget v j
  range_is j live is = ap (λ b. told_at b (range_judgement v budget)) (not_lacking Live v live)
      ∙ ap (range_step budget v) is

  -- where no live load is listed, that refusal
  pub range_lacks : LacksLive Live v → range_told budget v ≡ refuses no_live
  range_lacks none = ap (λ b. told_at b (range_judgement v budget)) (lacking Live v none)
