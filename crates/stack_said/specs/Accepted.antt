-- What the two answers of `check MODEL CERT` mean of the bytes of its files: `accepted`, that the certificate in the
-- second is true of the model in the first; a rejection, that it isn't.
use Rattle.std.specs.Prelude.{◌≡◌, ℕ, List, Some, Ok}
use Rattle.stack_contact.specs.Surveyed.{Surveyed}
use Rattle.stack_certificate.specs.Certificate.{CertificateValue}
use Rattle.stack_certificate.specs.CertificateOf.{certificate_of}
use Rattle.stack_equilibrium.specs.Truth.{IsTrueCertificate}
use Rattle.stack_checker.specs.declared.types.Part.{Part}
use Rattle.stack_checker.specs.declared.types.Reason.{Reason}
use Rattle.stack_checker.specs.declared.types.Check.TheVariants.{Rejected}
use Rattle.stack_checker.specs.Shown.{Shows}
use Rattle.stack_checker.specs.WrittenCheck.{written_check}
use Rattle.stack_lines.specs.declared.answer.Verdict.TheVariants.{Denied}
use Rattle.stack_work.specs.Answers.{exactly}
use Rattle.stack_lines.specs.CheckText.{rejected_text}
use Rattle.stack_work.specs.Work.{Holds, Ends}
use Rattle.stack_work.specs.Checking.{check_work}
use Rattle.stack_work.specs.AcceptedModel.{IsAcceptedModel}
use Rattle.stack_said.specs.Printed.{acceptance}

-- The bytes of two files: the first are an accepted model, with this survey, the second the text of this certificate.
pub record ModelAndCertificate (bytes text : List ℕ) : Type 0 where
  pub survey : Surveyed
  pub certificate : CertificateValue
  pub is_accepted : IsAcceptedModel bytes survey
  pub is_text : certificate_of text ≡ Ok certificate

-- The certificate is true of the model, and so it shows what it says of factors.
pub record HoldTrueCertificate (bytes text : List ℕ) : Type 0 where
  pub files : ModelAndCertificate bytes text
  pub is_true : IsTrueCertificate files.survey files.certificate
  pub shows : Shows files.survey files.certificate

-- The certificate isn't true of the model, and the line names its first test that fails, with its part.
pub record HoldFalseCertificate (bytes text line : List ℕ) : Type 0 where
  pub files : ModelAndCertificate bytes text
  pub is_false : ¬ (IsTrueCertificate files.survey files.certificate)
  pub part : Part
  pub reason : Reason
  pub is_first : written_check files.survey files.certificate ≡ Rejected part reason
  pub is_line : line ≡ rejected_text files.survey.structure part reason

-- If `check` of two files that are told ends with `accepted`, the certificate is true of the model.
abbrev pub AcceptedIsTrueOfFiles : Type 0
AcceptedIsTrueOfFiles = (holds : Holds) (model name bytes text : List ℕ) (names : List (List ℕ))
    → holds model ≡ Some bytes → holds name ≡ Some text → Ends holds (check_work model name) names acceptance
    → HoldTrueCertificate bytes text

-- If it ends with a rejection, the certificate isn't true of the model.
abbrev pub RejectedIsFalseOfFiles : Type 0
RejectedIsFalseOfFiles = (holds : Holds) (model name bytes text line : List ℕ) (names : List (List ℕ))
    → holds model ≡ Some bytes → holds name ≡ Some text
    → Ends holds (check_work model name) names (Ok (exactly Denied line)) → HoldFalseCertificate bytes text line

-- Two files hold at most one survey and one certificate. So nothing false is accepted, and nothing true is rejected.
abbrev pub FilesHoldOne : Type 0
FilesHoldOne = (bytes text : List ℕ) (a b : ModelAndCertificate bytes text)
    → (a.survey ≡ b.survey) × (a.certificate ≡ b.certificate)
