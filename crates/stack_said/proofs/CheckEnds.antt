-- The answers that the work on `check` ends with, and what they say of its two files.
use Rattle.std.proofs.Common.{◌≡◌, refl, sym, subst, ap, ◌∙◌, ℕ, List, Some, Result, Ok, Err}
use Rattle.stack_equilibrium.proofs.Common.{CertificateValue, IsSurvey, IsTrueCertificate, Structure, Surveyed}
use Rattle.stack_work.proofs.Common.{Check, Due, Ends, Found, Holds, IsAcceptedModel, ReadError, accepted_due}
use Rattle.stack_work.proofs.Common.{accepted_text, certificate_due, check_work, exactly, written_check}
use Rattle.stack_checker.specs.declared.types.Check.TheVariants.{Accepted, Rejected, TooWide}
use Rattle.stack_checker.proofs.Verdicts.{accepted_is_true, rejected_is_false}
use Rattle.stack_lines.specs.declared.answer.Verdict.TheVariants.{Affirmed, Denied}
use Rattle.stack_said.specs.Accepted.{AcceptedIsTrueOfFiles, RejectedIsFalseOfFiles, FilesHoldOne}
use Rattle.stack_work.proofs.OneEnd.{one_found}
use Rattle.stack_said.proofs.CertificateSaid.{SaidOf, MeansRejected, hold_true, hold_false, said_from}

-- what an answer says of a survey and a certificate
abbrev pub Means : Surveyed → CertificateValue → Due → Type 0
Means v c (exactly Affirmed line) = IsTrueCertificate v c × (line ≡ accepted_text)
Means v c (exactly Denied line) = MeansRejected v c line
Means v c _ = ⊥

-- the two files, and what the answer says of what they hold
abbrev pub Said : List ℕ → List ℕ → Due → Type 0
Said bytes text due = SaidOf Means bytes text due

answer_means : (v : Surveyed) (c : CertificateValue) (k : Check) (holds : Holds) (names : List (List ℕ)) (due : Due)
    → written_check v c ≡ k → Ends holds (certificate_due accepted_due v c k) names (Ok due) → Means v c due
answer_means v c Accepted holds names due is p = subst (Means v c) p.1 (accepted_is_true v c is, refl)
answer_means v c (Rejected part reason) holds names due is p =
    subst (Means v c) p.1 (rejected_is_false v c part reason is, part, reason, is, refl)
answer_means v c (TooWide place) holds names due is p = absurd p.1

pub said_by : (holds : Holds) (model name bytes text : List ℕ) (names : List (List ℕ)) (due : Due)
    → holds model ≡ Some bytes → holds name ≡ Some text → Ends holds (check_work model name) names (Ok due)
    → Said bytes text due
said_by holds model name bytes text names due told held way =
    said_from accepted_due Means answer_means holds due model name bytes text names told held way

pub accepted_of_files : AcceptedIsTrueOfFiles
accepted_of_files holds model name bytes text names told held way =
    let s = said_by holds model name bytes text names (exactly Affirmed accepted_text) told held way in
    hold_true bytes text s.0 s.1.0

pub rejected_of_files : RejectedIsFalseOfFiles
rejected_of_files holds model name bytes text line names told held way =
    let s = said_by holds model name bytes text names (exactly Denied line) told held way in
    hold_false bytes text line s.0 s.1

-- what the files hold, with another value where they hold none
abbrev survey_or : Surveyed → Found → Surveyed
survey_or v (Ok w) = w
survey_or v (Err e) = v

abbrev structure_or : Structure → Result Structure ReadError → Structure
structure_or s (Ok t) = t
structure_or s (Err e) = s

abbrev certificate_or : CertificateValue → Result CertificateValue ℕ → CertificateValue
certificate_or c (Ok d) = d
certificate_or c (Err n) = c

same_survey : (s t : Structure) (v w : Surveyed) → s ≡ t → IsSurvey s v → IsSurvey t w → v ≡ w
same_survey s t v w e h k =
    ap (survey_or v) (one_found s (Ok v) (Ok w) h (subst (λ r. IsSurvey r w) (sym e) k))

one_model : (bytes : List ℕ) (v w : Surveyed) → IsAcceptedModel bytes v → IsAcceptedModel bytes w → v ≡ w
one_model bytes v w a b = same_survey a.structure b.structure v w
    (ap (structure_or a.structure) (sym a.reads_to ∙ b.reads_to)) a.is_surveyed b.is_surveyed

pub files_hold_one : FilesHoldOne
files_hold_one bytes text a b = (
  one_model bytes a.survey b.survey a.is_accepted b.is_accepted,
  ap (certificate_or a.certificate) (sym a.is_text ∙ b.is_text),
)
