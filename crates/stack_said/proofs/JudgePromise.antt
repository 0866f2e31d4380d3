-- The promise of `stand` and `load`, by the ends of their work.
use Rattle.std.proofs.Common.{◌≡◌, refl, sym, subst, ap, ◌∙◌, ℕ, Bool, true, false, not, List, Option, Some, None}
use Rattle.std.proofs.Common.{Result, Ok, Err}
use Rattle.stack_equilibrium.proofs.Common.{CertificateValue, Fraction, HasLive, Structure, Surveyed}
use Rattle.stack_equilibrium.specs.declared.types.Question.{Question}
use Rattle.stack_model.specs.Structure.{lists_live}
use Rattle.stack_work.proofs.Common.{Due, Fault, Form, Holds, Judgement, ShelfSeen, StreamSeen, certified, judgement}
use Rattle.stack_work.proofs.Common.{lacks_live, over_budget, spent, too_wide, unjudged, verdict_status}
use Rattle.stack_work.specs.Judging.{judge_work}
use Rattle.stack_equilibrium.specs.declared.types.Question.TheVariants.{Dead, Live}
use Rattle.stack_run.specs.WrittenRun.{End, wide, over, never}
use Rattle.stack_judge.specs.declared.types.JudgePlace.{JudgePlace}
use Rattle.stack_judge.specs.EndPlace.{end_place}
use Rattle.stack_judge.specs.Judgement.{judged_by, judgement_of}
use Rattle.stack_judge.specs.Judgement.{survey_run, LacksLive}
use Rattle.stack_judge.proofs.EachJudged.{each_end_is_judged}
use Rattle.stack_lines.specs.Refusals.{no_live}
use Rattle.stack_work.specs.Answers.{certificate}
use Rattle.stack_work.specs.Forms.{judges}
use Rattle.stack_work.specs.Judging.{wide_fault, judged}
use Rattle.stack_work.proofs.JudgementEnds.{lists_some, listed_live, judged_is, judged_lacks}
use Rattle.stack_said.specs.MainTheorem.{IsGivenOut, RunMeets}
use Rattle.stack_said.specs.Promise.{told_as, Fulfils}
use Rattle.stack_said.specs.JudgePromise.{JudgeCase, has_certificate, is_wide, is_over, has_no_live, JudgeComes}
use Rattle.stack_said.specs.JudgePromise.{judge_status, IsJudgeDue, judge_promise}
use Rattle.stack_said.proofs.Deciding.{wide_is_seven}
use Rattle.stack_said.proofs.PromiseFulfilled.{EndsIn, at_once, fulfils}

-- what the test for a live load says
lists_nothing : (s : Structure) → not (lists_live s) ≡ true → ¬ (HasLive s)
lists_nothing s h one = let f = subst (λ b. not b ≡ true) (listed_live s one) h in absurd cc

not_false : (b : Bool) → not b ≡ false → b ≡ true
not_false true h = refl
not_false false h = absurd cc

pub has_one : (q : Question) (v : Surveyed) → lacks_live q v.structure ≡ false → ¬ (LacksLive q v)
has_one Dead v h none = none
has_one Live v h none = none (lists_some v.structure (not_false (lists_live v.structure) h))

pub lacks : (q : Question) (v : Surveyed) → lacks_live q v.structure ≡ true → LacksLive q v
lacks Dead v h = absurd cc
lacks Live v h = lists_nothing v.structure h

-- a judgement is spent only where the run is over
not_spent : (o : Option JudgePlace) (c : CertificateValue) → judged_by o (Some c) ≡ spent → ⊥
not_spent None c h = cc
not_spent (Some p) c h = cc

spent_only : (q : Question) (v : Surveyed) (x : End Fraction) → judgement_of q v x ≡ spent → x ≡ over
spent_only q v (wide p k s) h = absurd cc
spent_only q v over h = refl
spent_only q v never h = absurd cc
spent_only q v x h = absurd (not_spent (end_place q v x) _ h)

-- The end of the work in each case.
abbrev judge_end : Question → (budget : ℕ) → Surveyed → JudgeCase → Result Due Fault
judge_end q budget v (has_certificate c) = Ok (certificate q v c)
judge_end q budget v (is_wide p) = Err (wide_fault v.structure p)
judge_end q budget v is_over = Err (over_budget budget)
judge_end q budget v has_no_live = Err no_live

module _ (q : Question) (budget : ℕ) (holds : Holds) (v : Surveyed) where
  each : (x : JudgeCase) → JudgeComes q budget v x → EndsIn holds (judged q budget v) (λ e. e ≡ judge_end q budget v x)
  each (has_certificate c) h = at_once holds _ _ refl (judged_is q v budget (certified c) h.0 h.1)
  each (is_wide p) h = at_once holds _ _ refl (judged_is q v budget (too_wide p) h.0 h.1)
  each is_over h = at_once holds _ _ refl (judged_is q v budget spent h.0 (ap (judgement_of q v) h.1))
  each has_no_live h = at_once holds _ _ refl (judged_lacks q v budget h)

  by_judgement : ¬ (LacksLive q v) → (j : Judgement) → judgement q v budget ≡ j
      → (x : JudgeCase) × JudgeComes q budget v x
  by_judgement live (certified c) is = (has_certificate c, (live, is))
  by_judgement live (too_wide p) is = (is_wide p, (live, is))
  by_judgement live spent is = (is_over, (live, spent_only q v (survey_run q v budget) is))
  by_judgement live unjudged is = absurd (each_end_is_judged q v budget is)

  some : (b : Bool) → lacks_live q v.structure ≡ b → (x : JudgeCase) × JudgeComes q budget v x
  some true is = (has_no_live, lacks q v is)
  some false is = by_judgement (has_one q v is) (judgement q v budget) refl

tells : (q : Question) (budget : ℕ) (v : Surveyed) (x : JudgeCase) (n : ℕ) (out err : StreamSeen)
    → IsGivenOut (told_as (judge_end q budget v x)) n out err
    → (n ≡ judge_status x) × IsJudgeDue q budget v x (judge_end q budget v x)
tells q budget v (has_certificate c) n out err g = (g.3 ∙ ap verdict_status g.2.is_verdict, (g.2.judged, refl))
tells q budget v (is_wide p) n out err g = (g.0 ∙ wide_is_seven _ v.structure p, refl)
tells q budget v is_over n out err g = (g.0, refl)
tells q budget v has_no_live n out err g = (g.0, refl)

pub judge_fulfils : {status : ℕ} {form : Option Form} {shelf : ShelfSeen} {out err : StreamSeen}
    → RunMeets status form shelf out err → (q : Question) (model : List ℕ) (budget : ℕ) (bytes : List ℕ)
    → form ≡ Some (judges q model budget) → shelf.holds model ≡ Some bytes
    → Fulfils (judge_promise q budget) bytes status shelf out err
unfolding judge_work
judge_fulfils {status} {form} {shelf} {out} {err} m q model budget bytes is held =
    fulfils (judge_promise q budget) m (judges q model budget) model bytes (judged q budget) is refl held
    (record {
      some = λ v accepted. some q budget shelf.holds v (lacks_live q v.structure) refl;
      each = λ v accepted. each q budget shelf.holds v;
      tells = λ v x e is n out err g.
          let t = tells q budget v x n out err (subst (λ d. IsGivenOut (told_as d) n out err) is g) in
          (t.0, subst (IsJudgeDue q budget v x) (sym is) t.1);
    })
