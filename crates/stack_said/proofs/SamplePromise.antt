-- The promise of `sample`, by the ends of its work.
use Rattle.std.proofs.Common.{◌≡◌, refl, sym, subst, ap, ◌∙◌, ℕ, Option, Some, Result, Ok}
use Rattle.std.proofs.Common.{Err, inl, inr}
use Rattle.stack_work.proofs.Common.{Due, Ends, Fault, Form, Holds, IsDefinite, IsDefiniteRefusal, Judgement, Refusal}
use Rattle.stack_work.proofs.Common.{ShelfSeen, StreamSeen, built_step, certified, default_budget, judgement}
use Rattle.stack_work.proofs.Common.{over_budget, sample_of, sample_step, sampled, spent, survey_step, too_wide}
use Rattle.stack_work.proofs.Common.{unjudged, verdict_status, wall_sampled}
use Rattle.stack_work.specs.Sampling.{sample_work}
use Rattle.stack_overhang.specs.Wall.{wall_of}
use Rattle.stack_contact.specs.Surveyed.{Surveyed}
use Rattle.stack_walls.specs.Surveying.{DrawnWallsHaveSurveys}
use Rattle.stack_equilibrium.specs.declared.types.Question.TheVariants.{Live}
use Rattle.stack_judge.specs.NarrowWork.{is_narrow}
use Rattle.stack_judge.proofs.EachJudged.{each_end_is_judged}
use Rattle.stack_lines.specs.Refusals.{size}
use Rattle.stack_work.specs.Answers.{summary}
use Rattle.stack_work.specs.Forms.{sample}
use Rattle.stack_work.specs.Judging.{wide_fault}
use Rattle.stack_work.specs.Work.{◌>>=◌}
use Rattle.stack_work.proofs.OneEnd.{one_found}
use Rattle.stack_said.specs.MainTheorem.{IsGivenOut, RunMeets}
use Rattle.stack_said.specs.Promise.{told_as, FulfilsAtOnce}
use Rattle.stack_said.specs.SamplePromise.{SampleCase, has_certificate, is_wide, is_spent, has_no_size, sample_status}
use Rattle.stack_said.specs.SamplePromise.{IsWallSurvey, SampleComes, IsSampleDue, sample_promise}
use Rattle.stack_said.proofs.Deciding.{wide_is_seven}
use Rattle.stack_said.proofs.PromiseFulfilled.{EndsIn, once, at_once, fulfils_at_once}
use Rattle.stack_said.proofs.StackPromise.{sized_is}

-- The end of the work in each case.
abbrev sample_end : (number : ℕ) → SampleCase → Result Due Fault
sample_end number (has_certificate v c) = Ok (summary number v c (is_narrow Live v default_budget))
sample_end number (is_wide v p) = Err (wide_fault v.structure p)
sample_end number (is_spent v) = Err (over_budget default_budget)
sample_end number has_no_size = Err size

module _ (number : ℕ) (holds : Holds) where
  abbrev Ending : SampleCase → Type 0
  Ending x = EndsIn holds (sample_work number) (λ e. e ≡ sample_end number x)

  -- the work on a wall with this survey
  on_survey : (x : SampleCase) (v : Surveyed) → IsWallSurvey number v → (j : Judgement)
      → judgement Live v default_budget ≡ j → sample_step number v j ≡ once (sample_end number x) → Ending x
  unfolding sample_work
  on_survey x v (s, is, survey) j comes ends names end p definite =
      go end (subst (λ r. Ends holds (built_step r >>= wall_sampled number) names end) is p) definite
    where
      go : (end : Result Due Refusal) → Ends holds (wall_sampled number s) names end → IsDefinite end
          → (e : Result Due Fault) × (e ≡ sample_end number x) × (end ≡ told_as e)
      go (Ok due) (inl q) definite = absurd q.1
      go (Err r) (inl q) definite = absurd (subst IsDefiniteRefusal q.1 definite)
      go end (inr q) definite = at_once holds (sampled number v) _ refl (ap (sample_step number v) comes ∙ ends) names
          end (subst (λ f. Ends holds (survey_step s f >>= sampled number) names end)
          (one_found s q.0 (Ok v) q.1 survey) q.2) definite

  each : (x : SampleCase) → SampleComes number tt x → Ending x
  unfolding sample_work
  each (has_certificate v c) h = on_survey (has_certificate v c) v h.0 (certified c) h.1 refl
  each (is_wide v p) h = on_survey (is_wide v p) v h.0 (too_wide p) h.1 refl
  each (is_spent v) h = on_survey (is_spent v) v h.0 spent h.1 refl
  each has_no_size is = at_once holds _ _ refl (ap (λ r. built_step r >>= wall_sampled number) is)

abbrev Comes : ℕ → Type 0
Comes number = (x : SampleCase) × SampleComes number tt x

by_judgement : (number : ℕ) (v : Surveyed) → IsWallSurvey number v → (j : Judgement)
    → judgement Live v default_budget ≡ j → Comes number
by_judgement number v wall (certified c) is = (has_certificate v c, (wall, is))
by_judgement number v wall (too_wide p) is = (is_wide v p, (wall, is))
by_judgement number v wall spent is = (is_spent v, (wall, is))
by_judgement number v wall unjudged is = absurd (each_end_is_judged Live v default_budget is)

some : DrawnWallsHaveSurveys → (number : ℕ) → sample_of number ≡ sample_of number → Comes number
some drawn number = sized_is (λ r. sample_of number ≡ r → Comes number) 0 999999 number (wall_of number)
    (λ is. let w = drawn number in
    by_judgement number w.0 (wall_of number, is, w.1) (judgement Live w.0 default_budget) refl)
    (λ is. (has_no_size, is))

tells : (number : ℕ) (x : SampleCase) (n : ℕ) (out err : StreamSeen)
    → IsGivenOut (told_as (sample_end number x)) n out err
    → (n ≡ sample_status x) × IsSampleDue number x (sample_end number x)
tells number (has_certificate v c) n out err g = (g.3 ∙ ap verdict_status g.2.is_verdict, (g.2.judged, refl))
tells number (is_wide v p) n out err g = (g.0 ∙ wide_is_seven _ v.structure p, refl)
tells number (is_spent v) n out err g = (g.0, refl)
tells number has_no_size n out err g = (g.0, refl)

pub sample_fulfils : DrawnWallsHaveSurveys → {status : ℕ} {form : Option Form} {shelf : ShelfSeen}
    {out err : StreamSeen} → RunMeets status form shelf out err → (number : ℕ) → form ≡ Some (sample number)
    → FulfilsAtOnce (sample_promise number) status shelf out err
sample_fulfils drawn {status} {form} {shelf} {out} {err} m number is =
    fulfils_at_once (sample_promise number) m (sample number) is (record {
      some = λ at on. some drawn number refl;
      each = λ at on. each number shelf.holds;
      tells = λ at x e is n out err g.
          let t = tells number x n out err (subst (λ d. IsGivenOut (told_as d) n out err) is g) in
          (t.0, subst (IsSampleDue number x) (sym is) t.1);
    })
