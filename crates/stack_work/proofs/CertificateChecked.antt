-- What is answered to a certificate that was read.
use Rattle.std.proofs.Common.{◌≡◌, ℕ, List, [], Result, Ok, subst, sym}
use Rattle.stack_contact.specs.Surveyed.{Surveyed}
use Rattle.stack_certificate.specs.Certificate.{CertificateValue}
use Rattle.stack_certificate.specs.CertificateOf.{certificate_of}
use Rattle.stack_checker.specs.declared.types.Check.{Check}
use Rattle.stack_checker.specs.WrittenCheck.{written_check}
use Rattle.stack_lines.specs.declared.answer.Answer.{Answer}
use Rattle.stack_lines.specs.declared.refusal.Refusal.{Refusal}
use Rattle.stack_work.specs.Work.{◌>>=◌}
use Rattle.stack_work.specs.Checking.{Accepting, certificate_step, certificate_due, checked}
use Rattle.stack_work.specs.Progress.{Returns, DoesAlone, AnswersDue}

pub by_check : (due : Accepting) (v : Surveyed) (c : CertificateValue) (k : Check) (result : Result Answer Refusal)
    → k ≡ written_check v c → DoesAlone AnswersDue (certificate_due due v c k) result
    → DoesAlone AnswersDue (certificate_due due v c (written_check v c)) result
by_check due v c k result is done holds =
    subst (λ d. Returns AnswersDue holds (certificate_due due v c d) [] result) is (done holds)

pub certificate_checked : (due : Accepting) (v : Surveyed) (text : List ℕ) (c : CertificateValue)
    (result : Result Answer Refusal) → certificate_of text ≡ Ok c
    → DoesAlone AnswersDue (certificate_due due v c (written_check v c)) result
    → DoesAlone AnswersDue (checked due v text) result
certificate_checked due v text c result reads done holds =
    subst (λ r. Returns AnswersDue holds (certificate_step r
    >>= λ d. certificate_due due v d (written_check v d)) [] result)
    (sym reads) (done holds)
