-- What an answer of the work on a certificate says of its two files, out of what it says of a survey and a certificate.
use Rattle.std.proofs.Common.{◌≡◌, refl, subst, ℕ, Bool, true, false, List, [], ◌∷◌, Some, Result, Ok, Err, inl, inr}
use Rattle.std.proofs.Common.{length, if◌then◌else◌}
use Rattle.std.proofs.Math.Dec.{ltb}
use Rattle.stack_equilibrium.proofs.Common.{CertificateValue, IsTrueCertificate, Surveyed, certificate_of}
use Rattle.stack_checker.specs.declared.types.Part.{Part}
use Rattle.stack_checker.specs.declared.types.Reason.{Reason}
use Rattle.stack_work.proofs.Common.{Check, Due, Ends, Holds, IsAcceptedModel, certificate_due, certificate_step}
use Rattle.stack_work.proofs.Common.{checked, gives, greatest_file, long, refuses, surveyed_file, written_check}
use Rattle.stack_work.specs.Checking.{certificate_work, checked_file}
use Rattle.stack_checker.specs.declared.types.Check.TheVariants.{Rejected}
use Rattle.stack_lines.specs.declared.refusal.Input.TheVariants as inputs
use Rattle.stack_lines.specs.CheckText.{rejected_text}
use Rattle.stack_work.specs.Work.{◌>>=◌}
use Rattle.stack_work.specs.Checking.{Accepting}
use Rattle.stack_work.proofs.Ways.{came_from}
use Rattle.stack_work.proofs.AcceptedFiles.{told_bytes, only_accepted}
use Rattle.stack_said.specs.Accepted.{ModelAndCertificate, HoldTrueCertificate, HoldFalseCertificate}
use Rattle.stack_said.proofs.ModelProper.{accepted_shows}

-- the two files, and what the answer says of what they hold
abbrev pub SaidOf : (Surveyed → CertificateValue → Due → Type 0) → List ℕ → List ℕ → Due → Type 0
SaidOf Means bytes text d = (files : ModelAndCertificate bytes text) × Means files.survey files.certificate d

-- what the line of a rejection says
abbrev pub MeansRejected : Surveyed → CertificateValue → List ℕ → Type 0
MeansRejected v c line = (¬ (IsTrueCertificate v c)) × (part : Part) × (reason : Reason)
    × (written_check v c ≡ Rejected part reason) × (line ≡ rejected_text v.structure part reason)

abbrev pub hold_true : (bytes text : List ℕ) (files : ModelAndCertificate bytes text)
    → IsTrueCertificate files.survey files.certificate → HoldTrueCertificate bytes text
hold_true bytes text files truth = record {
  files = files;
  is_true = truth;
  shows = accepted_shows bytes files.survey files.certificate files.is_accepted truth;
}

pub hold_false : (bytes text line : List ℕ) (files : ModelAndCertificate bytes text)
    → MeansRejected files.survey files.certificate line → HoldFalseCertificate bytes text line
hold_false bytes text line files s = record {
  files = files;
  is_false = s.0;
  part = s.1;
  reason = s.2;
  is_first = s.3;
  is_line = s.4;
}

module _ (due : Accepting) (Means : Surveyed → CertificateValue → Due → Type 0)
    (means : (v : Surveyed) (c : CertificateValue) (k : Check) (holds : Holds) (names : List (List ℕ)) (d : Due)
    → written_check v c ≡ k → Ends holds (certificate_due due v c k) names (Ok d) → Means v c d)
    (holds : Holds) (d : Due) where
  text_ends : (bytes : List ℕ) (v : Surveyed) → IsAcceptedModel bytes v → (text : List ℕ)
      (r : Result CertificateValue ℕ) (names : List (List ℕ)) → certificate_of text ≡ r
      → Ends holds (certificate_step r >>= λ c. certificate_due due v c (written_check v c)) names (Ok d)
      → SaidOf Means bytes text d
  text_ends bytes v model text (Ok c) names is p = (
    record { survey = v; certificate = c; is_accepted = model; is_text = is },
    means v c (written_check v c) holds names d refl p,
  )
  text_ends bytes v model text (Err n) names is p = absurd p.1

  bytes_end : (bytes : List ℕ) (v : Surveyed) → IsAcceptedModel bytes v → (text : List ℕ) (b : Bool)
      (names : List (List ℕ))
      → Ends holds ((if b then refuses (long inputs.Certificate) else gives text) >>= λ t. checked due v t) names
      (Ok d)
      → SaidOf Means bytes text d
  bytes_end bytes v model text true names p = absurd p.1
  bytes_end bytes v model text false names p = text_ends bytes v model text (certificate_of text) names refl p

  file_ends : (bytes : List ℕ) (v : Surveyed) → IsAcceptedModel bytes v → (name text : List ℕ)
      (names : List (List ℕ)) → holds name ≡ Some text → Ends holds (checked_file due name v) names (Ok d)
      → SaidOf Means bytes text d
  unfolding checked_file
  file_ends bytes v model name text [] held p = absurd p
  file_ends bytes v model name text (n ∷ ns) held (same, inl h) = absurd h.1
  file_ends bytes v model name text (n ∷ ns) held (same, inr h) =
      subst (λ t. SaidOf Means bytes t d) (told_bytes (holds name) text h.0 held h.1)
      (bytes_end bytes v model h.0 (ltb greatest_file (length h.0)) ns h.2)

  pub said_from : (model name bytes text : List ℕ) (names : List (List ℕ)) → holds model ≡ Some bytes
      → holds name ≡ Some text → Ends holds (certificate_work due model name) names (Ok d)
      → SaidOf Means bytes text d
  unfolding certificate_work
  said_from model name bytes text names told held way =
      let c = came_from holds (surveyed_file model) (checked_file due name) names d way in
      file_ends bytes c.0 (only_accepted holds model bytes c.0 c.1 told c.3) name text c.2 held c.4
