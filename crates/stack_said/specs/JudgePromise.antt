-- What `stand MODEL [PIVOTS]` and `load MODEL [PIVOTS]` promise, on the survey of their model.
use Rattle.std.specs.Prelude.{◌≡◌, ℕ, Result, Ok, Err}
use Rattle.stack_contact.specs.Surveyed.{Surveyed}
use Rattle.stack_certificate.specs.Certificate.{CertificateValue}
use Rattle.stack_equilibrium.specs.declared.types.Question.{Question}
use Rattle.stack_run.specs.WrittenRun.{over}
use Rattle.stack_judge.specs.declared.types.JudgePlace.{JudgePlace}
use Rattle.stack_judge.specs.Judged.{IsJudged}
use Rattle.stack_judge.specs.Judgement.{judgement, certified, too_wide, survey_run, LacksLive}
use Rattle.stack_lines.specs.Refusals.{Fault, no_live, over_budget}
use Rattle.stack_work.specs.Answers.{Due, certificate, verdict_of}
use Rattle.stack_lines.specs.Verdicts.{verdict_status}
use Rattle.stack_work.specs.Judging.{wide_fault}
use Rattle.stack_said.specs.Promise.{Promise}

-- There is a certificate; a number of the run, of the certificate that is made of its end, or of the check of that
-- certificate is too wide; a further pivot is due and the budget is spent; the question is about live loads, and the
-- model has none.
pub data JudgeCase : Type 0 where
  has_certificate : CertificateValue → JudgeCase
  is_wide : JudgePlace → JudgeCase
  is_over : JudgeCase
  has_no_live : JudgeCase

-- The status is 1 exactly for a certificate of a collapse.
abbrev pub judge_status : JudgeCase → ℕ
judge_status (has_certificate c) = verdict_status (verdict_of c)
judge_status (is_wide p) = 7
judge_status is_over = 8
judge_status has_no_live = 9

module _ (q : Question) (budget : ℕ) where
  -- When each comes: the live load is looked for first.
  abbrev pub JudgeComes : Surveyed → JudgeCase → Type 0
  JudgeComes v (has_certificate c) = (¬ (LacksLive q v)) × (judgement q v budget ≡ certified c)
  JudgeComes v (is_wide p) = (¬ (LacksLive q v)) × (judgement q v budget ≡ too_wide p)
  JudgeComes v is_over = (¬ (LacksLive q v)) × (survey_run q v budget ≡ over)
  JudgeComes v has_no_live = LacksLive q v

  -- What is due, and what it means: a certificate that is true, answers the question and shows which factors are
  -- carried (`IsJudged`, its fields `holds`, `form` and `shows`); or a fault's line.
  abbrev pub IsJudgeDue : Surveyed → JudgeCase → Result Due Fault → Type 0
  IsJudgeDue v (has_certificate c) e = IsJudged q v c × (e ≡ Ok (certificate q v c))
  IsJudgeDue v (is_wide p) e = e ≡ Err (wide_fault v.structure p)
  IsJudgeDue v is_over e = e ≡ Err (over_budget budget)
  IsJudgeDue v has_no_live e = e ≡ Err no_live

  abbrev pub judge_promise : Promise Surveyed
  judge_promise = record {
    Case = JudgeCase;
    IsStatus = λ x n. n ≡ judge_status x;
    Comes = JudgeComes;
    IsDue = IsJudgeDue;
  }
