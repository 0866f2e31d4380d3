-- What a certificate that is given out is: true, of the question, of numbers that fit, in lists no longer than a
-- survey's, and accepted; the dead loads stand exactly if it isn't a collapse; and what it shows of factors.
use Rattle.std.specs.Prelude.{◌≡◌, ℕ}
use Rattle.stack_model.specs.Sound.{IsSound}
use Rattle.stack_contact.specs.Surveyed.{Surveyed, IsSurvey}
use Rattle.stack_certificate.specs.Certificate.{CertificateValue}
use Rattle.stack_certificate.specs.CertificateText.{CertificateFits, IsFew}
use Rattle.stack_equilibrium.specs.declared.types.Question.{Question}
use Rattle.stack_equilibrium.specs.Truth.{IsTrueCertificate, IsOfQuestion}
use Rattle.stack_statics.specs.Scene.{IsProper}
use Rattle.stack_equilibrium.specs.SurveyScene.{scene_of}
use Rattle.stack_extract.specs.EndLaws.{TellsOfDeadLoads, IsCertified}
use Rattle.stack_checker.specs.declared.types.Check.TheVariants.{Accepted}
use Rattle.stack_checker.specs.WrittenCheck.{written_check}
use Rattle.stack_checker.specs.Shown.{Shows}
use Rattle.stack_judge.specs.Judgement.{judgement, certified}

-- true, of the question, saying whether the dead loads stand, showing its factors, within the limits of a text, and
-- accepted
pub record IsJudged (q : Question) (v : Surveyed) (c : CertificateValue) : Type 0 where
  pub holds : IsTrueCertificate v c
  pub form : IsOfQuestion q c
  pub dead_loads : TellsOfDeadLoads v c
  pub shows : Shows v c
  pub fits : CertificateFits c
  pub few : IsFew c
  pub accepted : written_check v c ≡ Accepted

-- a certificate that is the judgement of a question answers it, whatever the survey
abbrev pub JudgementsAreOfTheQuestion : Type 0
JudgementsAreOfTheQuestion = (q : Question) (v : Surveyed) (budget : ℕ) (c : CertificateValue) →
    judgement q v budget ≡ certified c → IsOfQuestion q c

-- if the scene is proper, a certificate that is the judgement of a question is true and says whether the dead loads
-- stand
abbrev pub JudgementsAreCertified : Type 0
JudgementsAreCertified = (q : Question) (v : Surveyed) (budget : ℕ) (c : CertificateValue) → IsProper (scene_of v) →
    judgement q v budget ≡ certified c → IsCertified q v c

-- and if the structure is within its limits and this is its survey, the certificate is judged: it is true and accepted,
-- its numbers fit, and its lists are few
abbrev pub JudgementsAreJudged : Type 0
JudgementsAreJudged = (q : Question) (v : Surveyed) (budget : ℕ) (c : CertificateValue) → IsSound v.structure →
    IsSurvey v.structure v → judgement q v budget ≡ certified c → IsJudged q v c
