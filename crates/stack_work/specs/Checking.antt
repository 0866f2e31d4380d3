-- The work on a certificate: the survey of the model, the certificate's file and its text, the check, and what is due
-- of an accepted one. Of `check MODEL CERT` that is that it is accepted.
use Rattle.std.specs.Prelude.{ℕ, List, Result, Ok, Err}
use Rattle.stack_model.specs.Structure.{Structure}
use Rattle.stack_contact.specs.Surveyed.{Surveyed}
use Rattle.stack_certificate.specs.Certificate.{CertificateValue}
use Rattle.stack_certificate.specs.CertificateOf.{certificate_of}
use Rattle.stack_checker.specs.WrittenCheck.{written_check}
use Rattle.stack_checker.specs.declared.types.Check.{Check}
use Rattle.stack_checker.specs.declared.types.Check.TheVariants.{Accepted, Rejected, TooWide}
use Rattle.stack_lines.specs.declared.refusal.Input.TheVariants as inputs
use Rattle.stack_lines.specs.declared.answer.Verdict.TheVariants.{Affirmed, Denied}
use Rattle.stack_lines.specs.declared.refusal.Within.TheVariants.{Whole}
use Rattle.stack_lines.specs.Refusals.{certificate_line, wide_check}
use Rattle.stack_work.specs.Answers.{Due, exactly}
use Rattle.stack_lines.specs.CheckText.{place_of, accepted_text, rejected_text}
use Rattle.stack_work.specs.Work.{Work, gives, refuses, ◌>>=◌}
use Rattle.stack_work.specs.Surveying.{read, surveyed_file}

-- A text is a certificate, or is refused with the first line with which no certificate can begin.
abbrev pub certificate_step : Result CertificateValue ℕ → Work CertificateValue
certificate_step (Ok certificate) = gives certificate
certificate_step (Err number) = refuses (certificate_line number)

-- Accepted and rejected are both answers; a number that is too wide is a refusal.
abbrev pub check_step : Structure → Check → Work Due
check_step s Accepted = gives (exactly Affirmed accepted_text)
check_step s (Rejected part reason) = gives (exactly Denied (rejected_text s part reason))
check_step s (TooWide place) = refuses (wide_check Whole place.part (place_of s place.at))

-- What is due of an accepted certificate of a survey.
abbrev pub Accepting : Type 0
Accepting = Surveyed → CertificateValue → Work Due

-- The check of a certificate, and what is due of it if it is accepted.
abbrev pub certificate_due : Accepting → Surveyed → CertificateValue → Check → Work Due
certificate_due due v c Accepted = due v c
certificate_due due v c (Rejected part reason) = check_step v.structure (Rejected part reason)
certificate_due due v c (TooWide place) = check_step v.structure (TooWide place)

-- A certificate's text is read and checked before anything is made of it.
abbrev pub checked : Accepting → Surveyed → List ℕ → Work Due
checked due survey text = do
  certificate ← certificate_step (certificate_of text)
  certificate_due due survey certificate (written_check survey certificate)

-- The certificate's file is read, and its text is checked against the survey.
unfoldable pub checked_file : Accepting → List ℕ → Surveyed → Work Due
checked_file due name survey = do
  text ← read inputs.Certificate name
  checked due survey text

-- The model comes first: unless it has a survey, the certificate's file isn't asked for.
unfoldable pub certificate_work : Accepting → List ℕ → List ℕ → Work Due
certificate_work due model certificate = do
  survey ← surveyed_file model
  checked_file due certificate survey

-- Of an accepted certificate it is due that it is accepted, and no more.
abbrev pub accepted_due : Accepting
accepted_due v c = check_step v.structure Accepted

-- The work on `check MODEL CERT`.
abbrev pub check_work : List ℕ → List ℕ → Work Due
check_work model certificate = certificate_work accepted_due model certificate
