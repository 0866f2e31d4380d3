-- The promise of `stages`, by the ends of its work.
use Rattle.std.proofs.Common.{◌≡◌, refl, subst, ap, ◌∙◌, ℕ, suc, Bool, true, false, List, Option, Some, Result, Ok}
use Rattle.std.proofs.Common.{Err, length}
use Rattle.std.proofs.Math.Dec.{ltb}
use Rattle.std.proofs.lemmas.Bool.{ltb-false, ltb-true}
use Rattle.stack_work.proofs.Common.{Due, Fault, Form, Holds, ShelfSeen, StreamSeen, greatest_file, long, over_budget}
use Rattle.stack_work.proofs.Common.{staged, told_order, verdict_status, wide_within}
use Rattle.stack_work.specs.Building.{ordered_file, stages_work}
use Rattle.stack_contact.specs.Surveyed.{Surveyed}
use Rattle.stack_certificate.specs.Certificate.{ForcesValue}
use Rattle.stack_stages.specs.Stage.{stage}
use Rattle.stack_stages.specs.Staged.{Staged, all_stand, falls, too_wide_at, spent_at, no_stages, AreByStages}
use Rattle.stack_stages.proofs.FirstDecides.{stages_are_by_stages, stages_are_decided}
use Rattle.stack_lines.specs.declared.refusal.Input.TheVariants as inputs
use Rattle.stack_lines.specs.declared.refusal.Within.TheVariants.{Stage}
use Rattle.stack_lines.specs.Refusals.{order_line}
use Rattle.stack_work.specs.Answers.{stages_due}
use Rattle.stack_work.specs.Forms.{builds}
use Rattle.stack_work.proofs.StagesEnds.{after_text, order_is}
use Rattle.stack_said.specs.MainTheorem.{IsGivenOut, RunMeets}
use Rattle.stack_said.specs.Promise.{IsShort, told_as, Fulfils}
use Rattle.stack_said.specs.StagesPromise.{StagesCase, each_stands, one_falls, is_long, is_faulty, is_wide, is_spent}
use Rattle.stack_said.specs.StagesPromise.{stages_status, TellsOrder, StagesCome, IsStagesDue, stages_promise}
use Rattle.stack_said.proofs.Deciding.{wide_is_seven}
use Rattle.stack_said.proofs.PromiseFulfilled.{EndsIn, at_once, fault_is, read_short, read_long, fulfils}

-- The end of the work in each case.
abbrev IsStagesEnd : (budget : ℕ) → Surveyed → StagesCase → Result Due Fault → Type 0
IsStagesEnd budget v (each_stands order) e = (fs : List ForcesValue) × (e ≡ Ok (stages_due v order (all_stand fs)))
IsStagesEnd budget v (one_falls order k m) e =
    (fs : List ForcesValue) × (k ≡ suc (length fs)) × (e ≡ Ok (stages_due v order (falls fs m)))
IsStagesEnd budget v is_long e = e ≡ Err (long inputs.Order)
IsStagesEnd budget v (is_faulty number) e = e ≡ Err (order_line number)
IsStagesEnd budget v (is_wide order k p) e = e ≡ Err (wide_within (Stage k) (stage v.structure order k) p)
IsStagesEnd budget v (is_spent order k) e = e ≡ Err (over_budget budget)

module _ (name text : List ℕ) (budget : ℕ) (holds : Holds) (held : holds name ≡ Some text) (v : Surveyed) where
  each : (x : StagesCase) → StagesCome text budget v x
      → EndsIn holds (ordered_file name budget v) (IsStagesEnd budget v x)
  unfolding ordered_file
  each (each_stands order) (told, h) = let d = (stages_are_decided v order budget).stand h in
      read_short holds inputs.Order name _ text held told.0
      (at_once holds _ _ (d.0, refl) (order_is v text budget order told.1 (all_stand d.0) d.1))
  each (one_falls order k m) (told, h) = let d = (stages_are_decided v order budget).fall k m h in
      read_short holds inputs.Order name _ text held told.0
      (at_once holds _ _ (d.0, d.2, refl) (order_is v text budget order told.1 (falls d.0 m) d.1))
  each is_long more = read_long holds inputs.Order name _ text held more
  each (is_faulty number) (short, is) =
      read_short holds inputs.Order name _ text held short (at_once holds _ _ refl (ap (after_text v text budget) is))
  each (is_wide order k p) (told, h) = read_short holds inputs.Order name _ text held told.0
      (at_once holds _ _ refl (order_is v text budget order told.1 (too_wide_at k p)
      ((stages_are_decided v order budget).wide k p h)))
  each (is_spent order k) (told, h) = read_short holds inputs.Order name _ text held told.0
      (at_once holds _ _ refl (order_is v text budget order told.1 (spent_at k)
      ((stages_are_decided v order budget).over_budget k h)))

  abbrev IsSome : Type 0
  IsSome = (x : StagesCase) × StagesCome text budget v x

  by_stages : (order : List ℕ) → TellsOrder text budget v order → (x : Staged) → AreByStages v order budget x → IsSome
  by_stages order told (all_stand fs) h = (each_stands order, (told, h))
  by_stages order told (falls fs m) h = (one_falls order (suc (length fs)) m, (told, h))
  by_stages order told (too_wide_at k p) h = (is_wide order k p, (told, h))
  by_stages order told (spent_at k) h = (is_spent order k, (told, h))
  by_stages order told no_stages h = absurd h

  by_text : IsShort text → (r : Result (List ℕ) ℕ) → told_order v.structure text ≡ r → IsSome
  by_text short (Ok order) is =
      by_stages order (short, is) (staged v order budget) (stages_are_by_stages v order budget)
  by_text short (Err number) is = (is_faulty number, (short, is))

  some : (b : Bool) → ltb greatest_file (length text) ≡ b → IsSome
  some true is = (is_long, ltb-true _ _ is)
  some false is = by_text (ltb-false _ _ is) (told_order v.structure text) refl

tells : (text : List ℕ) (budget : ℕ) (v : Surveyed) (x : StagesCase) (e : Result Due Fault)
    → IsStagesEnd budget v x e → (n : ℕ) (out err : StreamSeen) → IsGivenOut (told_as e) n out err
    → (n ≡ stages_status x) × IsStagesDue text budget v x e
tells text budget v (each_stands order) e (fs, is) n out err g =
    let h = subst (λ d. IsGivenOut (told_as d) n out err) is g in
    (h.3 ∙ ap verdict_status h.2.is_verdict, (fs, h.2.stand_and_fall, is))
tells text budget v (one_falls order k m) e (fs, at, is) n out err g =
    let h = subst (λ d. IsGivenOut (told_as d) n out err) is g in
    (h.3 ∙ ap verdict_status h.2.is_verdict, (fs, at, h.2.stand_and_fall, is))
tells text budget v is_long e is n out err g = (fault_is out err is g, is)
tells text budget v (is_faulty number) e is n out err g = (fault_is out err is g, is)
tells text budget v (is_wide order k p) e is n out err g =
    (fault_is out err is g ∙ wide_is_seven (Stage k) (stage v.structure order k) p, is)
tells text budget v (is_spent order k) e is n out err g = (fault_is out err is g, is)

pub stages_fulfils : {status : ℕ} {form : Option Form} {shelf : ShelfSeen} {out err : StreamSeen}
    → RunMeets status form shelf out err → (model name : List ℕ) (budget : ℕ) (bytes text : List ℕ)
    → form ≡ Some (builds model name budget) → shelf.holds model ≡ Some bytes → shelf.holds name ≡ Some text
    → Fulfils (stages_promise text budget) bytes status shelf out err
unfolding stages_work
stages_fulfils {status} {form} {shelf} {out} {err} m model name budget bytes text is told held = fulfils
    (stages_promise text budget) m (builds model name budget) model bytes (ordered_file name budget) is refl told
    (record {
      some = λ v accepted. some name text budget shelf.holds held v (ltb greatest_file (length text)) refl;
      each = λ v accepted. each name text budget shelf.holds held v;
      tells = tells text budget;
    })
