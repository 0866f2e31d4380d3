-- The promise of `check` and `table`, by the ends of their work.
use Rattle.std.proofs.Common.{◌≡◌, refl, subst, ap, ◌∙◌, ℕ, Bool, true, false, List, Option, Some, None, Result, Ok}
use Rattle.std.proofs.Common.{Err}
use Rattle.std.proofs.Common.{length}
use Rattle.std.proofs.Math.Dec.{ltb}
use Rattle.std.proofs.lemmas.Bool.{ltb-false, ltb-true}
use Rattle.stack_work.proofs.Common.{Check, Due, Fault, Form, Holds, IsAcceptedModel, ShelfSeen, StreamSeen, Work}
use Rattle.stack_work.proofs.Common.{certificate_due, certificate_step, check, checked, due_of, exactly, greatest_file}
use Rattle.stack_work.proofs.Common.{verdict_status, written_check}
use Rattle.stack_work.specs.Checking.{certificate_work, checked_file}
use Rattle.stack_contact.specs.Surveyed.{Surveyed}
use Rattle.stack_certificate.specs.Certificate.{CertificateValue}
use Rattle.stack_certificate.specs.CertificateOf.{certificate_of}
use Rattle.stack_checker.proofs.Verdicts.{accepted_is_true, rejected_is_false}
use Rattle.stack_checker.specs.declared.types.Check.TheVariants.{Accepted, Rejected, TooWide}
use Rattle.stack_lines.specs.declared.refusal.Input.TheVariants as inputs
use Rattle.stack_lines.specs.declared.answer.Verdict.TheVariants.{Affirmed}
use Rattle.stack_lines.specs.Refusals.{wide_table}
use Rattle.stack_work.specs.declared.form.Asked.{Asked}
use Rattle.stack_work.specs.declared.form.Asked.TheVariants.{Acceptance, Tables}
use Rattle.stack_work.specs.Forms.{tables}
use Rattle.stack_work.specs.Tables.{tabled_by}
use Rattle.stack_work.specs.Work.{◌>>=◌}
use Rattle.stack_said.specs.CertificatePromise.{CertificateCase, is_accepted, is_rejected, is_long, is_faulty, is_wide}
use Rattle.stack_said.specs.CertificatePromise.{has_wide_table, certificate_status, answer_text, answer_wide}
use Rattle.stack_said.specs.CertificatePromise.{IsCertificate}
use Rattle.stack_said.specs.CertificatePromise.{CertificateComes, IsCertificateDue, certificate_promise}
use Rattle.stack_said.specs.MainTheorem.{IsGivenOut, RunMeets}
use Rattle.stack_said.specs.Promise.{IsShort, told_as, Fulfils}
use Rattle.stack_said.proofs.ModelProper.{accepted_shows}
use Rattle.stack_said.proofs.PromiseFulfilled.{EndsIn, WorkGives, once, at_once, fault_is, read_short, read_long}
use Rattle.stack_said.proofs.PromiseFulfilled.{fulfils}

module _ (asked : Asked) (name text : List ℕ) (holds : Holds) (held : holds name ≡ Some text) (v : Surveyed) where
  abbrev after_text : Result CertificateValue ℕ → Work Due
  after_text r = certificate_step r >>= λ c. certificate_due (due_of asked) v c (written_check v c)

  -- the work where this comes of the check
  step_is : (c : CertificateValue) → certificate_of text ≡ Ok c → (k : Check) → written_check v c ≡ k
      → checked (due_of asked) v text ≡ certificate_due (due_of asked) v c k
  step_is c is k comes = ap after_text is ∙ ap (certificate_due (due_of asked) v c) comes

  abbrev Ending : (Result Due Fault → Type 0) → Type 0
  Ending IsDue = EndsIn holds (checked_file (due_of asked) name v) IsDue

  on_short : {IsDue : Result Due Fault → Type 0} (e : Result Due Fault) → IsShort text → IsDue e
      → checked (due_of asked) v text ≡ once e → Ending IsDue
  unfolding checked_file
  on_short e short due is = read_short holds inputs.Certificate name _ text held short (at_once holds _ e due is)

  -- what is made of an accepted certificate
  listed : (a : Asked) (c : CertificateValue) → answer_wide a v c ≡ None
      → due_of a v c ≡ once (Ok (exactly Affirmed (answer_text a v c)))
  listed Acceptance c is = refl
  listed Tables c is = ap (tabled_by v c) is

  unlisted : (a : Asked) (c : CertificateValue) (index : ℕ) → answer_wide a v c ≡ Some index
      → due_of a v c ≡ once (Err (wide_table index))
  unlisted Acceptance c index is = absurd cc
  unlisted Tables c index is = ap (tabled_by v c) is

  each : (bytes : List ℕ) → IsAcceptedModel bytes v → (x : CertificateCase) → CertificateComes asked text v x
      → Ending (IsCertificateDue asked text v x)
  unfolding checked_file
  each bytes accepted (is_accepted c) h = on_short _ h.0.0 (accepted_shows bytes v c accepted h.1, refl)
      (step_is c h.0.1 Accepted h.2 ∙ listed asked c h.3)
  each bytes accepted (is_rejected c part reason) h =
      on_short _ h.0.0 refl (step_is c h.0.1 (Rejected part reason) h.2)
  each bytes accepted is_long more = read_long holds inputs.Certificate name _ text held more
  each bytes accepted (is_faulty number) h = on_short _ h.0 refl (ap after_text h.1)
  each bytes accepted (is_wide c place) h = on_short _ h.0.0 refl (step_is c h.0.1 (TooWide place) h.1)
  each bytes accepted (has_wide_table c index) h =
      on_short _ h.0.0 refl (step_is c h.0.1 Accepted h.2 ∙ unlisted asked c index h.3)

  abbrev IsSome : Type 0
  IsSome = (x : CertificateCase) × CertificateComes asked text v x

  by_answer : (c : CertificateValue) → IsCertificate asked text c → written_check v c ≡ Accepted → (o : Option ℕ)
      → answer_wide asked v c ≡ o → IsSome
  by_answer c is accepted None none = (is_accepted c, (is, accepted_is_true v c accepted, accepted, none))
  by_answer c is accepted (Some index) wide =
      (has_wide_table c index, (is, accepted_is_true v c accepted, accepted, wide))

  by_check : (c : CertificateValue) → IsCertificate asked text c → (k : Check) → written_check v c ≡ k → IsSome
  by_check c is Accepted comes = by_answer c is comes (answer_wide asked v c) refl
  by_check c is (Rejected part reason) comes =
      (is_rejected c part reason, (is, rejected_is_false v c part reason comes, comes))
  by_check c is (TooWide place) comes = (is_wide c place, (is, comes))

  by_text : IsShort text → (r : Result CertificateValue ℕ) → certificate_of text ≡ r → IsSome
  by_text short (Ok c) is = by_check c (short, is) (written_check v c) refl
  by_text short (Err number) is = (is_faulty number, (short, is))

  some : (b : Bool) → ltb greatest_file (length text) ≡ b → IsSome
  some true is = (is_long, ltb-true _ _ is)
  some false is = by_text (ltb-false _ _ is) (certificate_of text) refl

status_is : (asked : Asked) (text : List ℕ) (v : Surveyed) (x : CertificateCase) (e : Result Due Fault)
    → IsCertificateDue asked text v x e → (n : ℕ) (out err : StreamSeen) → IsGivenOut (told_as e) n out err
    → n ≡ certificate_status x
status_is asked text v (is_accepted c) e due n out err g =
    let h = subst (λ d. IsGivenOut (told_as d) n out err) due.1 g in h.3 ∙ ap verdict_status h.2.0
status_is asked text v (is_rejected c part reason) e due n out err g =
    let h = subst (λ d. IsGivenOut (told_as d) n out err) due g in h.3 ∙ ap verdict_status h.2.0
status_is asked text v is_long e due n out err g = fault_is out err due g
status_is asked text v (is_faulty number) e due n out err g = fault_is out err due g
status_is asked text v (is_wide c place) e due n out err g = fault_is out err due g
status_is asked text v (has_wide_table c index) e due n out err g = fault_is out err due g

work_gives : (asked : Asked) (name text : List ℕ) (holds : Holds) (bytes : List ℕ) → holds name ≡ Some text
    → WorkGives (certificate_promise asked text) (IsAcceptedModel bytes) holds (checked_file (due_of asked) name)
    (IsCertificateDue asked text)
work_gives asked name text holds bytes held = record {
  some = λ v accepted. some asked name text holds held v (ltb greatest_file (length text)) refl;
  each = λ v accepted. each asked name text holds held v bytes accepted;
  tells = λ v x e due n out err g. (status_is asked text v x e due n out err g, due);
}

pub check_fulfils : {status : ℕ} {form : Option Form} {shelf : ShelfSeen} {out err : StreamSeen}
    → RunMeets status form shelf out err → (model name bytes text : List ℕ) → form ≡ Some (check model name)
    → shelf.holds model ≡ Some bytes → shelf.holds name ≡ Some text
    → Fulfils (certificate_promise Acceptance text) bytes status shelf out err
unfolding certificate_work
check_fulfils {status} {form} {shelf} {out} {err} m model name bytes text is told held =
    fulfils (certificate_promise Acceptance text) m (check model name) model bytes
    (checked_file (due_of Acceptance) name) is refl told (work_gives Acceptance name text shelf.holds bytes held)

pub table_fulfils : {status : ℕ} {form : Option Form} {shelf : ShelfSeen} {out err : StreamSeen}
    → RunMeets status form shelf out err → (model name bytes text : List ℕ) → form ≡ Some (tables model name)
    → shelf.holds model ≡ Some bytes → shelf.holds name ≡ Some text
    → Fulfils (certificate_promise Tables text) bytes status shelf out err
unfolding certificate_work
table_fulfils {status} {form} {shelf} {out} {err} m model name bytes text is told held =
    fulfils (certificate_promise Tables text) m (tables model name) model bytes
    (checked_file (due_of Tables) name) is refl told (work_gives Tables name text shelf.holds bytes held)
