-- A printed certificate is accepted by `check` with its own model, and is short enough to be read.
use Rattle.std.proofs.Common.{◌≡◌, refl, sym, subst, ℕ, ◌≤◌, ◌<◌, List, [], ◌∷◌, Some, Ok, inr, length, arith}
use Rattle.std.proofs.lemmas.Bool.{le-ltb}
use Rattle.stack_equilibrium.proofs.Common.{CertificateValue, Surveyed, certificate_of}
use Rattle.stack_equilibrium.specs.declared.types.Question.{Question}
use Rattle.stack_certificate.specs.CertificateText.{IsCertificateText, FewHaveShortTexts, text_bound}
use Rattle.stack_judge.specs.Judged.{IsJudged}
use Rattle.stack_work.proofs.Common.{Ends, Holds, accepted_due, check_work, greatest_file, surveyed_file}
use Rattle.stack_work.specs.Checking.{certificate_work, checked_file}
use Rattle.stack_said.specs.Printed.{acceptance, PrintedIsAccepted, PrintedIsShort}
use Rattle.stack_work.proofs.Ways.{goes_on}
use Rattle.stack_work.proofs.OneEnd.{one_end}
use Rattle.stack_work.proofs.AcceptedFiles.{all_accepted}

pub printed_short : FewHaveShortTexts → PrintedIsShort
printed_short short q v c text judged is = subst (λ t. length t < text_bound) (sym is.is)
    (short c judged.fits judged.few)

checked_ends : (q : Question) (v : Surveyed) (c : CertificateValue) (holds : Holds) (name text : List ℕ)
    → length text ≤ greatest_file → certificate_of text ≡ Ok c → IsJudged q v c → holds name ≡ Some text
    → Ends holds (checked_file accepted_due name v) (name ∷ []) acceptance
unfolding checked_file
checked_ends q v c holds name text short reads judged told = (
  refl,
  inr (text, rw told refl, rw (le-ltb greatest_file (length text) short, reads, judged.accepted) (refl, refl)),
)

pub printed_accepted : ((c : CertificateValue) (bytes : List ℕ) → IsCertificateText c bytes → certificate_of bytes
    ≡ Ok c)
    → FewHaveShortTexts → PrintedIsAccepted
unfolding certificate_work
printed_accepted reads short q v c holds model name bytes text told accepted judged is held =
    let fewer = printed_short short q v c text judged is in
    let way = goes_on holds (surveyed_file model) (checked_file accepted_due name) (model ∷ []) (name ∷ []) v acceptance
    (all_accepted holds model bytes v told accepted)
    (checked_ends q v c holds name text (omega (arith, fewer)) (reads c text is) judged held) in (
      way,
      λ names end other definite. sym (one_end holds (check_work model name) (model ∷ name ∷ []) names acceptance end
          ((bytes, told), ((text, held), tt)) way other tt definite).1,
    )
