-- The first stage that isn't judged to stand is what comes of all.
use Rattle.std.proofs.Common.{◌≡◌, refl, sym, subst, ap, ◌∙◌, ℕ, zero, suc, ◌+◌, ◌<◌, ◌≤◌, List, [], ◌∷◌, ◌++◌}
use Rattle.std.proofs.Common.{length, length-append, arith, inl, inr, ◌⊎◌}
use Rattle.std.proofs.lemmas.Bool.{cases_lt}
use Rattle.stack_equilibrium.proofs.Common.{ForcesValue, Surveyed, collapses, stands}
use Rattle.stack_equilibrium.specs.declared.types.Question.TheVariants.{Dead}
use Rattle.stack_judge.specs.Judgement.{Judgement, certified, too_wide, spent, judgement}
use Rattle.stack_stages.specs.Stage.{surveyed_stage}
use Rattle.stack_stages.specs.Staged.{all_stand, too_wide_at, spent_at, staged_by, staged_from, staged}
use Rattle.stack_stages.specs.Staged.{StandBefore, AllAreJudged, IsFirstStage, FirstStagesDecide, StagesAreDecided}
use Rattle.stack_stages.specs.Staged.{StagesAreByStages}
use Rattle.stack_stages.proofs.FirstRefused.{by_stages}

module _ (v : Surveyed) (order : List ℕ) (budget : ℕ) where
  -- the judgement of the stage behind stage k
  abbrev next : ℕ → Judgement
  next k = judgement Dead (surveyed_stage v order (suc k)) budget

  -- what comes of the stages behind stage k, where stage n behind them is the first not to stand
  record IsReachedBy (left k n : ℕ) (fs : List ForcesValue) (j : Judgement) : Type 0 where
    pub forces : List ForcesValue
    pub many : length forces ≡ n
    pub more : ℕ
    pub is : staged_from v order budget left k fs ≡ staged_by (staged_from v order budget more (suc n)) (suc n) forces j

  -- the stages before it stand
  reached : (n : ℕ) (j : Judgement) → StandBefore v order budget n → next n ≡ j → (left k : ℕ) (fs : List ForcesValue)
      → k + left ≡ length order → n < length order → k ≤ n → length fs ≡ k → IsReachedBy left k n fs j
  reached n j h e zero k fs c w l m = absurd (omega (arith, c, w, l))
  reached n j h e (suc left) k fs c w l m = choose (cases_lt k n) (λ f lt. reached n j h e left (suc k) (fs ++ f ∷ [])
      (omega (arith, c)) w (omega (arith, lt)) (length-append fs (f ∷ []) ∙ more_by_one (length fs) k m))
    where
      at_end : (k n : ℕ) → k ≤ n → n ≤ k → k ≡ n
      at_end k n l le = omega (arith, l, le)

      more_by_one : (m n : ℕ) → m ≡ n → m + 1 ≡ suc n
      more_by_one m n e = omega (arith, e)

      stands_on : (f : ForcesValue) → next k ≡ certified (stands f) → IsReachedBy left (suc k) n (fs ++ f ∷ []) j
          → IsReachedBy (suc left) k n fs j
      stands_on f is r = record {
        forces = r.forces;
        many = r.many;
        more = r.more;
        is = ap (staged_by (staged_from v order budget left (suc k)) (suc k) fs) is ∙ r.is;
      }

      here : k ≡ n → IsReachedBy (suc left) k n fs j
      here same = record {
        forces = fs;
        many = m ∙ same;
        more = left;
        is = (λ i. staged_by (staged_from v order budget left (suc (same i))) (suc (same i)) fs (next (same i)))
            ∙ ap (staged_by (staged_from v order budget left (suc n)) (suc n) fs) e;
      }

      choose : (k < n) ⊎ (n ≤ k) → ((f : ForcesValue) → k < n → IsReachedBy left (suc k) n (fs ++ f ∷ []) j)
          → IsReachedBy (suc left) k n fs j
      choose (inl lt) rest = let s = h k lt in stands_on s.0 s.1 (rest s.0 lt)
      choose (inr le) rest = here (at_end k n l le)

  -- all stages stand
  all_on : AllAreJudged v order budget → (left k : ℕ) (fs : List ForcesValue) → k + left ≡ length order
      → (gs : List ForcesValue) × (staged_from v order budget left k fs ≡ all_stand gs)
  all_on h zero k fs c = (fs, refl)
  all_on h (suc left) k fs c =
      let s = h k (omega (arith, c)) in
      let r = all_on h left (suc k) (fs ++ s.0 ∷ []) (omega (arith, c)) in
      (r.0, ap (staged_by (staged_from v order budget left (suc k)) (suc k) fs) s.1 ∙ r.1)

  from_first : (stage : ℕ) (j : Judgement) → (f : IsFirstStage v order budget stage j)
      → IsReachedBy (length order) 0 f.before [] j
  from_first stage j f = reached f.before j f.earlier
      (subst (λ n. judgement Dead (surveyed_stage v order n) budget ≡ j) f.is_next f.is) (length order) 0 []
      (all_left (length order)) f.within (omega arith) refl
    where
      all_left : (n : ℕ) → 0 + n ≡ n
      all_left n = omega arith

  all_from_first : AllAreJudged v order budget → (fs : List ForcesValue) × (staged v order budget ≡ all_stand fs)
  all_from_first h = all_on h (length order) 0 [] (all_left (length order))
    where
      all_left : (n : ℕ) → 0 + n ≡ n
      all_left n = omega arith

  decide : FirstStagesDecide v order budget
  decide = record {
    wide = λ stage p f. (from_first stage (too_wide p) f).is ∙ ap (λ n. too_wide_at n p) (sym f.is_next);
    over_budget = λ stage f. (from_first stage spent f).is ∙ ap spent_at (sym f.is_next);
    fall = λ stage m f. let r = from_first stage (certified (collapses m)) f in
        (r.forces, r.is, f.is_next ∙ ap suc (sym r.many));
    stand = all_from_first;
  }

pub stages_are_by_stages : StagesAreByStages
stages_are_by_stages v order budget = by_stages v order budget

pub stages_are_decided : StagesAreDecided
stages_are_decided v order budget = decide v order budget
