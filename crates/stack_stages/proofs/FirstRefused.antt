-- A stage that isn't judged is the first that doesn't stand.
use Rattle.std.proofs.Common.{◌≡◌, refl, sym, ap, ◌∙◌, subst, ℕ, zero, suc, ◌+◌, ◌<◌, ◌≤◌, List, [], ◌∷◌, ◌++◌}
use Rattle.std.proofs.Common.{length, length-append, Err, arith, inl, inr}
use Rattle.std.proofs.lemmas.Bool.{cases_lt}
use Rattle.stack_equilibrium.proofs.Common.{ForcesValue, Surveyed, collapses, greatest, stands, unbounded}
use Rattle.stack_equilibrium.specs.declared.types.Question.TheVariants.{Dead}
use Rattle.stack_judge.specs.Judgement.{Judgement, certified, too_wide, spent, unjudged, judgement}
use Rattle.stack_judge.proofs.EachJudged.{each_end_is_judged}
use Rattle.stack_judge.proofs.JudgedValues.{of_the_question}
use Rattle.stack_stages.specs.Stage.{surveyed_stage}
use Rattle.stack_stages.specs.Staged.{staged_by, staged_from, staged, StandBefore, AreByStages}
use Rattle.stack_stages.specs.declared.types.StagesError.{StagesError}
use Rattle.stack_stages.specs.declared.types.StagesError.TheVariants as errors
use Rattle.stack_stages.specs.Gives.{GivesStages, RefusesFirstStage}

module _ (v : Surveyed) (order : List ℕ) (budget : ℕ) where
  -- the judgement of the stage behind stage k
  abbrev next : ℕ → Judgement
  next k = judgement Dead (surveyed_stage v order (suc k)) budget

  -- one more stage stands
  one_more : (k : ℕ) (f : ForcesValue) → StandBefore v order budget k → next k ≡ certified (stands f)
      → StandBefore v order budget (suc k)
  one_more k f h e i l = elim (cases_lt i k) [
    | inl lt ↦ h i lt
    | inr le ↦ (f, subst (λ n. next n ≡ certified (stands f)) (last i k l le) e)
  ]
    where
      last : (i k : ℕ) → i < suc k → k ≤ i → k ≡ i
      last i k l le = omega (arith, l, le)

  -- what comes of the stages behind stage k, which stand before
  first_of : (left k : ℕ) (fs : List ForcesValue) → StandBefore v order budget k → k + left ≡ length order
      → length fs ≡ k → AreByStages v order budget (staged_from v order budget left k fs)
  first_of zero k fs h c n = subst (StandBefore v order budget) (omega (arith, c)) h
  first_of (suc left) k fs h c n = go (next k) refl
      (λ f e. first_of left (suc k) (fs ++ f ∷ []) (one_more k f h e) (omega (arith, c))
      (length-append fs (f ∷ []) ∙ more_by_one (length fs) k n))
    where
      within : k < length order
      within = omega (arith, c)

      more_by_one : (m n : ℕ) → m ≡ n → m + 1 ≡ suc n
      more_by_one m n e = omega (arith, e)

      go : (j : Judgement) → next k ≡ j
          → ((f : ForcesValue) → next k ≡ certified (stands f)
          → AreByStages v order budget (staged_from v order budget left (suc k) (fs ++ f ∷ [])))
          → AreByStages v order budget (staged_by (staged_from v order budget left (suc k)) (suc k) fs j)
      go (certified (stands f)) e more = more f e
      go (certified (collapses m)) e more = record {
        before = k;
        is_next = ap suc n;
        within = within;
        earlier = h;
        is = subst (λ i. judgement Dead (surveyed_stage v order (suc i)) budget ≡ certified (collapses m)) (sym n) e;
      }
      go (certified (greatest f m)) e more =
          of_the_question Dead (surveyed_stage v order (suc k)) budget (greatest f m) e
      go (certified (unbounded f r)) e more =
          of_the_question Dead (surveyed_stage v order (suc k)) budget (unbounded f r) e
      go (too_wide p) e more = record { before = k; is_next = refl; within = within; earlier = h; is = e }
      go spent e more = record { before = k; is_next = refl; within = within; earlier = h; is = e }
      go unjudged e more = each_end_is_judged Dead (surveyed_stage v order (suc k)) budget e

  -- what comes of all stages
  pub by_stages : AreByStages v order budget (staged v order budget)
  by_stages = first_of (length order) 0 [] (λ k l. absurd (omega (arith, l))) (all_left (length order)) refl
    where
      all_left : (n : ℕ) → 0 + n ≡ n
      all_left n = omega arith

  -- a stage that is refused is the first that doesn't stand
  pub refuses_first : (f : StagesError) → GivesStages (Err f) (staged v order budget)
      → RefusesFirstStage (Err f) v order budget
  refuses_first (errors.TooWide stage p) g = subst (AreByStages v order budget) g by_stages
  refuses_first (errors.Spent stage) g = subst (AreByStages v order budget) g by_stages
  refuses_first errors.Memory g = tt
