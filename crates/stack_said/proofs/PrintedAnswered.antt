-- What `stand` and `load` print is true whatever the devices do, and is accepted by `check`: out of the theorem on the
-- top call.
use Rattle.std.proofs.Common.{◌≡◌, subst, ap, ◌∙◌, ℕ, zero, suc, ◌<◌, ◌≤◌, List, Option, Some}
use Rattle.std.proofs.Common.{Result, Ok, Err, inl, inr, arith}
use Rattle.stack_work.proofs.Common.{Due, Ends, Form, IsAcceptedModel, IsDefinite, Refusal, ShelfSeen, StreamSeen}
use Rattle.stack_work.proofs.Common.{accepted_text, check, check_work, exactly, faulty, file, memory, output, status_of}
use Rattle.stack_work.proofs.Common.{verdict_status, words}
use Rattle.stack_outside.specs.Seen.{Took}
use Rattle.stack_contact.specs.Surveyed.{Surveyed}
use Rattle.stack_certificate.specs.Certificate.{CertificateValue}
use Rattle.stack_certificate.specs.CertificateText.{IsCertificateText}
use Rattle.stack_equilibrium.specs.declared.types.Question.{Question}
use Rattle.stack_judge.specs.Judged.{IsJudged}
use Rattle.stack_lines.specs.declared.answer.Verdict.TheVariants.{Affirmed}
use Rattle.stack_work.specs.Answers.{IsAnswer}
use Rattle.stack_work.specs.Judging.{judged}
use Rattle.stack_said.specs.MainTheorem.{Answered, Refused, Cause, RunMeets}
use Rattle.stack_said.specs.Printed.{acceptance, PrintedIsAccepted, IsAcceptedAgain}

abbrev given : Due → Result Due Refusal
given due = Ok due

abbrev refusing : Refusal → Result Due Refusal
refusing r = Err r

-- what a check that accepts gives out
module _ (shelf : ShelfSeen) (out err : StreamSeen) (model name : List ℕ) (names : List (List ℕ))
    (only : (end : Result Due Refusal) → Ends shelf.holds (check_work model name) names end → IsDefinite end
    → end ≡ acceptance) where
  abbrev Again : ℕ → Type 0
  Again status = IsAcceptedAgain status shelf out

  same_due : (due other : Due) → given due ≡ given other → due ≡ other
  same_due due other e = cc

  again_answered : (status : ℕ) → Answered status (Some (check model name)) shelf names out err
      → Again status
  again_answered status a =
      let same = same_due a.due (exactly Affirmed accepted_text) (only (Ok a.due) a.way tt) in
      let is = subst (λ d. IsAnswer d a.verdict a.text) same a.is_due in
      inl (a.is_status ∙ ap verdict_status is.0, subst (Took out) is.1 a.is_written)

  not_refused : (r : Refusal) → refusing r ≡ acceptance → ⊥
  not_refused r e = cc

  again_refused : (status : ℕ) (r : Refusal) → status ≡ status_of r
      → Cause r (Some (check model name)) shelf names out → Again status
  again_refused status words is cause = absurd (not_refused words (only (Err words) cause tt))
  again_refused status (file input) is cause = inr (inl (is, cause.0))
  again_refused status output is cause = inr (inr (inl (is, cause)))
  again_refused status (faulty memory) is cause = inr (inr (inr is))
  again_refused status r is cause = absurd (not_refused r (only (Err r) cause tt))

  again_by : (status : ℕ)
      → (status < 2 → Answered status (Some (check model name)) shelf names out err)
      → (2 ≤ status → Refused status (Some (check model name)) shelf names out err)
      → Again status
  again_by zero answers refusals = again_answered 0 (answers (omega arith))
  again_by (suc zero) answers refusals = again_answered 1 (answers (omega arith))
  again_by (suc (suc n)) answers refusals =
      let r = refusals (omega arith) in again_refused (suc (suc n)) r.refusal r.is_status r.cause

pub accepted_again : PrintedIsAccepted → {status : ℕ} {form : Option Form} {shelf : ShelfSeen} {out err : StreamSeen}
    → RunMeets status form shelf out err
    → (q : Question) (v : Surveyed) (c : CertificateValue) (model name bytes text : List ℕ)
    → form ≡ Some (check model name) → shelf.holds model ≡ Some bytes → shelf.holds name ≡ Some text
    → IsAcceptedModel bytes v
    → IsJudged q v c → IsCertificateText c text → IsAcceptedAgain status shelf out
accepted_again law {status} {form} {shelf} {out} {err} m q v
    c model name bytes text is told held accepted judged is_text =
    let n = subst (λ f. RunMeets status f shelf out err) is m in
    let l = law q v c shelf.holds model name bytes text told accepted judged is_text held in
    again_by shelf out err model name n.names (λ end. l.1 n.names end) status n.answered
    n.refused
