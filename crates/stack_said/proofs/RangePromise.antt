-- The promise of `range`, by the ends of its work.
use Rattle.std.proofs.Common.{◌≡◌, refl, sym, subst, ap, ◌∙◌, ℕ, Bool, true, false, List, Option, Some, Result, Ok, Err}
use Rattle.stack_work.proofs.Common.{Due, Fault, Form, Holds, IsAcceptedModel, ShelfSeen, StreamSeen, lacks_live}
use Rattle.stack_work.proofs.Common.{over_budget, verdict_status, wide_within}
use Rattle.stack_work.specs.Ranging.{range_work}
use Rattle.stack_contact.specs.Surveyed.{Surveyed}
use Rattle.stack_equilibrium.specs.declared.types.Question.TheVariants.{Live}
use Rattle.stack_judge.specs.Judgement.{LacksLive}
use Rattle.stack_range.specs.Ranged.{collapsing, between}
use Rattle.stack_range.specs.RangeJudgement.{RangeJudgement, told, wide_on, spent_on, no_range, range_judgement}
use Rattle.stack_range.specs.RangeJudgement.{AreSides}
use Rattle.stack_range.proofs.BothSides.{ranges_are_by_sides}
use Rattle.stack_lines.specs.Refusals.{no_live}
use Rattle.stack_work.specs.Answers.{ranged}
use Rattle.stack_work.specs.Forms.{ranges}
use Rattle.stack_work.specs.Ranging.{within_of, range_step, range_told}
use Rattle.stack_work.proofs.RangeEnds.{range_is, range_lacks}
use Rattle.stack_said.specs.MainTheorem.{IsGivenOut, RunMeets}
use Rattle.stack_said.specs.Promise.{told_as, Fulfils}
use Rattle.stack_said.specs.RangePromise.{RangeCase, has_ends, falls, has_no_live, is_wide, is_spent, RangeComes}
use Rattle.stack_said.specs.RangePromise.{range_status, IsRangeDue, range_promise}
use Rattle.stack_said.proofs.Deciding.{wide_is_seven}
use Rattle.stack_said.proofs.JudgePromise.{has_one, lacks}
use Rattle.stack_said.proofs.ModelProper.{accepted_proper}
use Rattle.stack_said.proofs.PromiseFulfilled.{EndsIn, at_once, fulfils}

-- The end of the work in each case.
abbrev range_end : (budget : ℕ) → Surveyed → RangeCase → Result Due Fault
range_end budget v (has_ends low high) = Ok (ranged v (between low high))
range_end budget v (falls y) = Ok (ranged v (collapsing y))
range_end budget v has_no_live = Err no_live
range_end budget v (is_wide side p) = Err (wide_within (within_of side) v.structure p)
range_end budget v (is_spent side) = Err (over_budget budget)

module _ (budget : ℕ) (holds : Holds) (bytes : List ℕ) (v : Surveyed) (accepted : IsAcceptedModel bytes v) where
  -- the work where the sides have this judgement
  step_is : ¬ (LacksLive Live v) → (j : RangeJudgement) → AreSides v budget j
      → range_told budget v ≡ range_step budget v j
  step_is live j h =
      range_is v budget j live ((ranges_are_by_sides v budget j (accepted_proper bytes v accepted)).1 h)

  each : (x : RangeCase) → RangeComes budget v x → EndsIn holds (range_told budget v) (λ e. e ≡ range_end budget v x)
  each (has_ends low high) c = at_once holds _ _ refl (step_is c.0 (told (between low high)) (c.1, c.2))
  each (falls y) c = at_once holds _ _ refl (step_is c.0 (told (collapsing y)) c.1)
  each has_no_live c = at_once holds _ _ refl (range_lacks v budget c)
  each (is_wide side p) c = at_once holds _ _ refl (step_is c.0 (wide_on side p) (c.1, c.2))
  each (is_spent side) c = at_once holds _ _ refl (step_is c.0 (spent_on side) (c.1, c.2))

  by_sides : ¬ (LacksLive Live v) → (j : RangeJudgement) → AreSides v budget j → (x : RangeCase) × RangeComes budget v x
  by_sides live (told (between low high)) h = (has_ends low high, (live, h.0, h.1))
  by_sides live (told (collapsing y)) h = (falls y, (live, h))
  by_sides live (wide_on side p) h = (is_wide side p, (live, h.0, h.1))
  by_sides live (spent_on side) h = (is_spent side, (live, h.0, h.1))
  by_sides live no_range h = absurd h

  some : (b : Bool) → lacks_live Live v.structure ≡ b → (x : RangeCase) × RangeComes budget v x
  some true is = (has_no_live, lacks Live v is)
  some false is = by_sides (has_one Live v is) (range_judgement v budget)
      ((ranges_are_by_sides v budget (range_judgement v budget) (accepted_proper bytes v accepted)).0 refl)

tells : (budget : ℕ) (v : Surveyed) (x : RangeCase) (n : ℕ) (out err : StreamSeen)
    → IsGivenOut (told_as (range_end budget v x)) n out err
    → (n ≡ range_status x) × IsRangeDue budget v x (range_end budget v x)
tells budget v (has_ends low high) n out err g = (g.3 ∙ ap verdict_status g.2.is_verdict, (g.2.holds.exact, refl))
tells budget v (falls y) n out err g = (g.3 ∙ ap verdict_status g.2.is_verdict, (g.2.holds.shows.fall, refl))
tells budget v has_no_live n out err g = (g.0, refl)
tells budget v (is_wide side p) n out err g = (g.0 ∙ wide_is_seven _ v.structure p, refl)
tells budget v (is_spent side) n out err g = (g.0, refl)

pub range_fulfils : {status : ℕ} {form : Option Form} {shelf : ShelfSeen} {out err : StreamSeen}
    → RunMeets status form shelf out err → (model : List ℕ) (budget : ℕ) (bytes : List ℕ)
    → form ≡ Some (ranges model budget) → shelf.holds model ≡ Some bytes
    → Fulfils (range_promise budget) bytes status shelf out err
unfolding range_work
range_fulfils {status} {form} {shelf} {out} {err} m model budget bytes is held =
    fulfils (range_promise budget) m (ranges model budget) model bytes (range_told budget) is refl held
    (record {
      some = λ v accepted. some budget shelf.holds bytes v accepted (lacks_live Live v.structure) refl;
      each = λ v accepted. each budget shelf.holds bytes v accepted;
      tells = λ v x e is n out err g.
          let t = tells budget v x n out err (subst (λ d. IsGivenOut (told_as d) n out err) is g) in
          (t.0, subst (IsRangeDue budget v x) (sym is) t.1);
    })
