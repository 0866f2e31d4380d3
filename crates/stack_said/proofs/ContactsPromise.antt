-- The promise of `contacts`, by the end of its work.
use Rattle.std.proofs.Common.{◌≡◌, refl, subst, ap, ◌∙◌, ℕ, List, Option, Some}
use Rattle.stack_work.proofs.Common.{Form, ShelfSeen, StreamSeen, verdict_status}
use Rattle.stack_work.specs.Listing.{contacts_work}
use Rattle.stack_work.specs.Forms.{contacts}
use Rattle.stack_work.specs.Listing.{contacts_due}
use Rattle.stack_said.specs.ContactsPromise.{has_table, contacts_promise}
use Rattle.stack_said.specs.MainTheorem.{IsGivenOut, RunMeets}
use Rattle.stack_said.specs.Promise.{told_as, Fulfils}
use Rattle.stack_said.proofs.PromiseFulfilled.{at_once, fulfils}

pub contacts_fulfils : {status : ℕ} {form : Option Form} {shelf : ShelfSeen} {out err : StreamSeen}
    → RunMeets status form shelf out err → (model bytes : List ℕ) → form ≡ Some (contacts model)
    → shelf.holds model ≡ Some bytes → Fulfils contacts_promise bytes status shelf out err
unfolding contacts_work
contacts_fulfils {status} {form} {shelf} {out} {err} m model bytes is held =
    fulfils contacts_promise m (contacts model) model bytes contacts_due is refl held (record {
      some = λ v accepted. (has_table, tt);
      each = λ v accepted x comes. at_once shelf.holds _ _ refl refl;
      tells = λ v x e is n out err g.
          let h = subst (λ d. IsGivenOut (told_as d) n out err) is g in (h.3 ∙ ap verdict_status h.2.0, is);
    })
