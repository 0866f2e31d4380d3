-- What `check MODEL CERT` and `table MODEL CERT` promise, on the survey of their model, if the certificate's file has
-- these bytes.
use Rattle.std.specs.Prelude.{◌≡◌, ℕ, ◌<◌, List, Option, Some, None, length, Result, Ok, Err}
use Rattle.stack_contact.specs.Surveyed.{Surveyed}
use Rattle.stack_certificate.specs.Certificate.{CertificateValue}
use Rattle.stack_certificate.specs.CertificateOf.{certificate_of}
use Rattle.stack_equilibrium.specs.Truth.{IsTrueCertificate}
use Rattle.stack_checker.specs.declared.types.Part.{Part}
use Rattle.stack_checker.specs.declared.types.Reason.{Reason}
use Rattle.stack_checker.specs.declared.types.Check.TheVariants.{Accepted, Rejected, TooWide}
use Rattle.stack_checker.specs.declared.types.CheckPlace.{CheckPlace}
use Rattle.stack_checker.specs.Shown.{Shows}
use Rattle.stack_checker.specs.WrittenCheck.{written_check}
use Rattle.stack_report.specs.ForceNumbers.{wide_index}
use Rattle.stack_lines.specs.declared.answer.Verdict.TheVariants.{Affirmed, Denied}
use Rattle.stack_lines.specs.declared.refusal.Input.TheVariants as inputs
use Rattle.stack_lines.specs.declared.refusal.Within.TheVariants.{Whole}
use Rattle.stack_lines.specs.CheckText.{place_of, accepted_text, rejected_text}
use Rattle.stack_lines.specs.Refusals.{Fault, long, certificate_line, wide_check, wide_table}
use Rattle.stack_work.specs.declared.form.Asked.{Asked}
use Rattle.stack_work.specs.declared.form.Asked.TheVariants.{Acceptance, Tables}
use Rattle.stack_work.specs.Answers.{Due, exactly}
use Rattle.stack_work.specs.Surveying.{greatest_file}
use Rattle.stack_work.specs.Tables.{tables_text}
use Rattle.stack_said.specs.Promise.{IsShort, Promise}

-- The certificate is true and accepted; it isn't, and this is its first test that fails; its file is too long; this
-- line is the first with which no certificate can begin; a number of the check is too wide, or, of an accepted one, of
-- the table.
pub data CertificateCase : Type 0 where
  is_accepted : CertificateValue → CertificateCase
  is_rejected : CertificateValue → Part → Reason → CertificateCase
  is_long : CertificateCase
  is_faulty : (number : ℕ) → CertificateCase
  is_wide : CertificateValue → CheckPlace → CertificateCase
  has_wide_table : CertificateValue → (index : ℕ) → CertificateCase

abbrev pub certificate_status : CertificateCase → ℕ
certificate_status (is_accepted c) = 0
certificate_status (is_rejected c part reason) = 1
certificate_status is_long = 4
certificate_status (is_faulty number) = 6
certificate_status (is_wide c place) = 7
certificate_status (has_wide_table c index) = 7

-- What is answered of an accepted certificate, and the first number of that answer that is too wide.
abbrev pub answer_text : Asked → Surveyed → CertificateValue → List ℕ
answer_text Acceptance v c = accepted_text
answer_text Tables v c = tables_text v c

abbrev pub answer_wide : Asked → Surveyed → CertificateValue → Option ℕ
answer_wide Acceptance v c = None
answer_wide Tables v c = wide_index v c

module _ (asked : Asked) (text : List ℕ) where
  -- The text isn't too long, and is this certificate.
  abbrev pub IsCertificate : CertificateValue → Type 0
  IsCertificate c = IsShort text × (certificate_of text ≡ Ok c)

  -- When each comes. (So each true certificate is accepted, unless a number of its check, or of the table, is too
  -- wide: by `some` of FulfilsOn one of these cases comes.)
  abbrev pub CertificateComes : Surveyed → CertificateCase → Type 0
  CertificateComes v (is_accepted c) = IsCertificate c × IsTrueCertificate v c × (written_check v c ≡ Accepted)
      × (answer_wide asked v c ≡ None)
  CertificateComes v (is_rejected c part reason) = IsCertificate c × (¬ (IsTrueCertificate v c))
      × (written_check v c ≡ Rejected part reason)
  CertificateComes v is_long = greatest_file < length text
  CertificateComes v (is_faulty number) = IsShort text × (certificate_of text ≡ Err number)
  CertificateComes v (is_wide c place) = IsCertificate c × (written_check v c ≡ TooWide place)
  CertificateComes v (has_wide_table c index) = IsCertificate c × IsTrueCertificate v c
      × (written_check v c ≡ Accepted) × (answer_wide asked v c ≡ Some index)

  -- What is due, and what it means: `accepted` or the two tables, and the certificate shows which factors are carried;
  -- the line of the rejection; or a fault's line.
  abbrev pub IsCertificateDue : Surveyed → CertificateCase → Result Due Fault → Type 0
  IsCertificateDue v (is_accepted c) e = Shows v c × (e ≡ Ok (exactly Affirmed (answer_text asked v c)))
  IsCertificateDue v (is_rejected c part reason) e =
      e ≡ Ok (exactly Denied (rejected_text v.structure part reason))
  IsCertificateDue v is_long e = e ≡ Err (long inputs.Certificate)
  IsCertificateDue v (is_faulty number) e = e ≡ Err (certificate_line number)
  IsCertificateDue v (is_wide c place) e = e ≡ Err (wide_check Whole place.part (place_of v.structure place.at))
  IsCertificateDue v (has_wide_table c index) e = e ≡ Err (wide_table index)

  abbrev pub certificate_promise : Promise Surveyed
  certificate_promise = record {
    Case = CertificateCase;
    IsStatus = λ x n. n ≡ certificate_status x;
    Comes = CertificateComes;
    IsDue = IsCertificateDue;
  }
