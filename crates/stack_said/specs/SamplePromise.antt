-- What `sample N` promises. Each wall that a number draws has a survey, so surveying it is never refused.
use Rattle.std.specs.Prelude.{◌≡◌, ℕ, ⊤, Result, Ok, Err}
use Rattle.stack_model.specs.Structure.{Structure}
use Rattle.stack_overhang.specs.declared.error.StackError.TheVariants.{Size}
use Rattle.stack_contact.specs.Surveyed.{Surveyed, IsSurvey}
use Rattle.stack_certificate.specs.Certificate.{CertificateValue}
use Rattle.stack_equilibrium.specs.declared.types.Question.TheVariants.{Live}
use Rattle.stack_judge.specs.declared.types.JudgePlace.{JudgePlace}
use Rattle.stack_judge.specs.Judged.{IsJudged}
use Rattle.stack_judge.specs.Judgement.{judgement, certified, too_wide, spent}
use Rattle.stack_judge.specs.NarrowWork.{is_narrow}
use Rattle.stack_lines.specs.Refusals.{Fault, size, over_budget}
use Rattle.stack_work.specs.Answers.{Due, summary}
use Rattle.stack_work.specs.Judging.{default_budget, wide_fault}
use Rattle.stack_work.specs.Sampling.{sample_of}
use Rattle.stack_said.specs.Promise.{Promise}

-- The wall has this survey and this certificate; a number of its judgement is too wide; its budget is spent; the number
-- is past the greatest.
pub data SampleCase : Type 0 where
  has_certificate : Surveyed → CertificateValue → SampleCase
  is_wide : Surveyed → JudgePlace → SampleCase
  is_spent : Surveyed → SampleCase
  has_no_size : SampleCase

abbrev pub sample_status : SampleCase → ℕ
sample_status (has_certificate v c) = 0
sample_status (is_wide v p) = 7
sample_status (is_spent v) = 8
sample_status has_no_size = 5

module _ (number : ℕ) where
  -- The wall with this number has this survey.
  abbrev pub IsWallSurvey : Surveyed → Type 0
  IsWallSurvey v = (s : Structure) × (sample_of number ≡ Ok s) × IsSurvey s v

  -- When each comes.
  abbrev pub SampleComes : ⊤ → SampleCase → Type 0
  SampleComes at (has_certificate v c) = IsWallSurvey v × (judgement Live v default_budget ≡ certified c)
  SampleComes at (is_wide v p) = IsWallSurvey v × (judgement Live v default_budget ≡ too_wide p)
  SampleComes at (is_spent v) = IsWallSurvey v × (judgement Live v default_budget ≡ spent)
  SampleComes at has_no_size = sample_of number ≡ Err Size

  -- What is due, and what it means: the summary of a certificate that is true, so that a factor in it is the greatest;
  -- or a fault's line.
  abbrev pub IsSampleDue : SampleCase → Result Due Fault → Type 0
  IsSampleDue (has_certificate v c) e =
      IsJudged Live v c × (e ≡ Ok (summary number v c (is_narrow Live v default_budget)))
  IsSampleDue (is_wide v p) e = e ≡ Err (wide_fault v.structure p)
  IsSampleDue (is_spent v) e = e ≡ Err (over_budget default_budget)
  IsSampleDue has_no_size e = e ≡ Err size

  abbrev pub sample_promise : Promise ⊤
  sample_promise = record {
    Case = SampleCase;
    IsStatus = λ x n. n ≡ sample_status x;
    Comes = SampleComes;
    IsDue = λ at. IsSampleDue;
  }
