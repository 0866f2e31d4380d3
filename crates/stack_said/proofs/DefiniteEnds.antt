-- Where neither the shelf nor the output failed, the one definite end of the work is what was given out, unless memory
-- is wanting.
use Rattle.std.proofs.Common.{◌≡◌, sym, subst, ◌∙◌, ℕ, List, Option, Result, Ok, Err, inl, inr, ◌⊎◌, arith}
use Rattle.stack_work.proofs.Common.{Due, Fault, Form, IsDefinite, NeitherFailed, Refusal, ShelfFailed, ShelfSeen}
use Rattle.stack_work.proofs.Common.{StreamSeen, TookNothing, Way, faulty, file, memory, output, status_of}
use Rattle.stack_work.specs.OneEnd.{AreTold}
use Rattle.stack_said.specs.MainTheorem.{OutputAfter, IsGivenOut, RunMeets}
use Rattle.stack_said.specs.ModelSaid.{IsRefused}
use Rattle.stack_work.proofs.OneEnd.{words_end}

kept_for_memory : (r : Refusal) (form : Option Form) (shelf : ShelfSeen) (names : List (List ℕ)) (out : StreamSeen)
    → 11 ≡ status_of r → OutputAfter r form shelf names out → TookNothing out
kept_for_memory output form shelf names out is h = absurd (omega arith)
kept_for_memory _ form shelf names out is h = h

-- Where memory is wanting nothing is on the output.
pub kept_at_memory : {status : ℕ} {form : Option Form} {shelf : ShelfSeen} {out err : StreamSeen}
    → RunMeets status form shelf out err → status ≡ 11
    → TookNothing out
kept_at_memory {status} {form} {shelf} {out} {err} m eleven =
    let r = m.refused (omega (arith, eleven)) in
    kept_for_memory r.refusal form shelf m.names out (sym eleven ∙ r.is_status) r.on_output

module _ (status : ℕ) (form : Option Form) (shelf : ShelfSeen) (out err : StreamSeen)
    (m : RunMeets status form shelf out err) (no_shelf : ¬ (ShelfFailed shelf))
    (names : List (List ℕ)) (told : AreTold shelf.holds names) (known : Result Due Refusal)
    (is_known : IsDefinite known)
    (way : Way shelf.holds form names known) where
  abbrev Given : Result Due Refusal → Type 0
  Given end = IsGivenOut end status out err

  determines : (end : Result Due Refusal) → IsDefinite end → Way shelf.holds form m.names end → Given end → Given known
  determines end is_definite other given =
      subst Given (sym (words_end shelf.holds form names m.names known end told way other is_known is_definite).1) given

  given_as : (end : Result Due Refusal) → Way shelf.holds form m.names end → Given end → (status ≡ 11) ⊎ Given known
  given_as (Ok due) other given = inr (determines (Ok due) tt other given)
  given_as (Err (file input)) other given = absurd (no_shelf (m.shelf_failed given.0))
  given_as (Err (faulty memory)) other given = inl given.0
  given_as (Err r) other given = inr (determines (Err r) tt other given)

  decided_as : (status ≡ 11) ⊎ ((end : Result Due Refusal) × Way shelf.holds form m.names end × Given end)
      → (status ≡ 11) ⊎ Given known
  decided_as (inl eleven) = inl eleven
  decided_as (inr d) = given_as d.0 d.1 d.2

-- The end that is known is the one that was given out, unless memory is wanting.
pub given_or_memory : {status : ℕ} {form : Option Form} {shelf : ShelfSeen} {out err : StreamSeen}
    → RunMeets status form shelf out err → NeitherFailed shelf out
    → (names : List (List ℕ)) → AreTold shelf.holds names → (known : Result Due Refusal) → IsDefinite known
    → Way shelf.holds form names known → (status ≡ 11) ⊎ IsGivenOut known status out err
given_or_memory {status} {form} {shelf} {out} {err} m neither names told known is_known way =
    decided_as status form shelf out err m neither.0 names told known
    is_known way (m.decided neither)

-- So a fault that is known is the one that was told, unless memory is wanting.
pub refused_or_memory : {status : ℕ} {form : Option Form} {shelf : ShelfSeen} {out err : StreamSeen}
    → RunMeets status form shelf out err → (f : Fault)
    → (status ≡ 11) ⊎ IsGivenOut (Err (faulty f)) status out err → IsRefused f status out err
refused_or_memory m f (inl eleven) = inl (record { is_status = eleven; is_kept = kept_at_memory m eleven })
refused_or_memory m f (inr given) = inr given
