-- Stages that are judged one after the other come to what comes of all of them.
use Rattle.std.proofs.Common.{◌≡◌, refl, sym, ap, subst, ◌∙◌, ℕ, zero, suc, ◌+◌, ◌<◌, ◌≤◌, List, [], ◌∷◌, ◌++◌, length}
use Rattle.std.proofs.Common.{Some, Err, arith, length-append, inl, inr, slice_get, ◌⊎◌}
use Rattle.std.proofs.lemmas.Option.{same_Some}
use Rattle.stack_equilibrium.proofs.Common.{ForcesValue, MotionValue, Surveyed, collapses, stands}
use Rattle.stack_contact.proofs.Appended.{get-either}
use Rattle.stack_equilibrium.specs.declared.types.Question.TheVariants.{Dead}
use Rattle.stack_judge.specs.Judgement.{Judgement, certified, too_wide, spent, judgement}
use Rattle.stack_judge.specs.Judged.{IsJudged}
use Rattle.stack_stages.specs.Stage.{surveyed_stage}
use Rattle.stack_stages.specs.Staged.{Staged, all_stand, falls, too_wide_at, spent_at, staged_by, staged_from, staged}
use Rattle.stack_stages.specs.Staged.{AreStandingStages, AreTrue}
use Rattle.stack_stages.specs.declared.types.StagesError.{StagesError}
use Rattle.stack_stages.specs.declared.types.StagesError.TheVariants as errors
use Rattle.stack_stages.specs.Gives.{GivesOutcome, GivesStages}

module _ (v : Surveyed) (order : List ℕ) (budget : ℕ) where
  -- the first k stages stand by these forces, and what comes of all is what comes of those that are left
  pub record IsStagedTo (k : ℕ) (fs : List ForcesValue) : Type 0 where
    pub left : ℕ
    pub count : k + left ≡ length order
    pub as_many : length fs ≡ k
    pub is : staged_from v order budget left k fs ≡ staged v order budget
    pub standing : AreStandingStages v order fs

  -- at first no stage is judged
  pub none_yet : IsStagedTo 0 []
  none_yet = record {
    left = length order;
    count = zero_more (length order);
    as_many = refl;
    is = refl;
    standing = λ k f e. absurd (cc e);
  }
    where
      zero_more : (n : ℕ) → 0 + n ≡ n
      zero_more n = omega arith

  -- the judgement of the stage behind stage k
  abbrev next : ℕ → Judgement
  next k = judgement Dead (surveyed_stage v order (suc k)) budget

  -- where a stage is left, what comes of all is told by its judgement
  record IsLeft (k : ℕ) (fs : List ForcesValue) : Type 0 where
    pub left : ℕ
    pub count : suc k + left ≡ length order
    pub is : staged_by (staged_from v order budget left (suc k)) (suc k) fs (next k) ≡ staged v order budget

  -- before the last stage one is left
  one_left : (k : ℕ) (fs : List ForcesValue) → IsStagedTo k fs → k < length order → IsLeft k fs
  one_left k fs h l = go h.left h.count h.is
    where
      go : (left : ℕ) → k + left ≡ length order → staged_from v order budget left k fs ≡ staged v order budget
          → IsLeft k fs
      go zero c e = absurd (omega (arith, l, c))
      go (suc left) c e = record { left = left; count = omega (arith, c); is = e }

  -- a stage that is judged to stand is one more that stands
  pub stands_too : (k : ℕ) (fs : List ForcesValue) (f : ForcesValue) → IsStagedTo k fs → k < length order
      → next k ≡ certified (stands f) → IsJudged Dead (surveyed_stage v order (suc k)) (stands f)
      → IsStagedTo (suc k) (fs ++ f ∷ [])
  stands_too k fs f h l e j = let o = one_left k fs h l in record {
    left = o.left;
    count = o.count;
    as_many = length-append fs (f ∷ []) ∙ one_more (length fs) k h.as_many;
    is = ap (staged_by (staged_from v order budget o.left (suc k)) (suc k) fs) (sym e) ∙ o.is;
    standing = λ i g at. standing i g at (get-either fs (f ∷ []) i g at);
  }
    where
      one_more : (m n : ℕ) → m ≡ n → m + 1 ≡ suc n
      one_more m n e = omega (arith, e)

      at_end : (i m : ℕ) (g : ForcesValue) → i ≡ length fs + m → slice_get (f ∷ []) m ≡ Some g
          → IsJudged Dead (surveyed_stage v order (suc i)) (stands g)
      at_end i zero g e at =
          let s = same_Some _ _ at in
          let n : i ≡ k = e ∙ (nothing (length fs) ∙ h.as_many) in
          subst (λ g. IsJudged Dead (surveyed_stage v order (suc i)) (stands g)) s
          (subst (λ n. IsJudged Dead (surveyed_stage v order (suc n)) (stands f)) (sym n) j)
        where
          nothing : (n : ℕ) → n + 0 ≡ n
          nothing n = omega arith
      at_end i (suc m) g e at = absurd (cc at)

      standing : (i : ℕ) (g : ForcesValue) → slice_get (fs ++ f ∷ []) i ≡ Some g
          → (slice_get fs i ≡ Some g) ⊎ ((m : ℕ) × ((i ≡ length fs + m) × (slice_get (f ∷ []) m ≡ Some g)))
          → IsJudged Dead (surveyed_stage v order (suc i)) (stands g)
      standing i g at (inl a) = h.standing i g a
      standing i g at (inr a) = at_end i a.0 g a.1.0 a.1.1

  -- a stage that is judged otherwise ends the work
  pub judged_so : (k : ℕ) (fs : List ForcesValue) (j : Judgement) (x : Staged) → IsStagedTo k fs → k < length order
      → next k ≡ j → ((more : List ForcesValue → Staged) → staged_by more (suc k) fs j ≡ x)
      → staged v order budget ≡ x
  judged_so k fs j x h l e y = let o = one_left k fs h l in
      sym (ap (staged_by (staged_from v order budget o.left (suc k)) (suc k) fs) (sym e) ∙ o.is)
      ∙ y (staged_from v order budget o.left (suc k))

  -- no stage is left
  pub all_done : (k : ℕ) (fs : List ForcesValue) → IsStagedTo k fs → length order ≤ k
      → (staged v order budget ≡ all_stand fs) × (AreStandingStages v order fs × (length fs ≡ length order))
  all_done k fs h l = go h.left h.count h.is
    where
      go : (left : ℕ) → k + left ≡ length order → staged_from v order budget left k fs ≡ staged v order budget
          → (staged v order budget ≡ all_stand fs) × (AreStandingStages v order fs × (length fs ≡ length order))
      go zero c e = (sym e, (h.standing, h.as_many ∙ (omega (arith, c))))
      go (suc left) c e = absurd (omega (arith, c, l))

  -- where stage k + 1 is judged to stand, one more stands
  pub goes_on : (k n : ℕ) (fs more : List ForcesValue) (f : ForcesValue) → IsStagedTo k fs → k < length order
      → n ≡ suc k → judgement Dead (surveyed_stage v order n) budget ≡ certified (stands f)
      → IsJudged Dead (surveyed_stage v order n) (stands f) → more ≡ fs ++ f ∷ [] → IsStagedTo n more
  goes_on k n fs more f h l e g j m = subst (λ n. IsStagedTo n more) (sym e) (subst (IsStagedTo (suc k)) (sym m)
      (stands_too k fs f h l (subst (λ n. judgement Dead (surveyed_stage v order n) budget ≡ certified (stands f)) e g)
      (subst (λ n. IsJudged Dead (surveyed_stage v order n) (stands f)) e j)))

  -- stage k + 1 collapses
  pub collapses_now : (k n : ℕ) (fs : List ForcesValue) (m : MotionValue) → IsStagedTo k fs → k < length order
      → n ≡ suc k → judgement Dead (surveyed_stage v order n) budget ≡ certified (collapses m)
      → IsJudged Dead (surveyed_stage v order n) (collapses m)
      → (staged v order budget ≡ falls fs m) × AreTrue v order (falls fs m)
  collapses_now k n fs m h l e g j =
      let c = ap suc h.as_many in (
        judged_so k fs (certified (collapses m)) (falls fs m) h l
            (subst (λ n. judgement Dead (surveyed_stage v order n) budget ≡ certified (collapses m)) e g)
            (λ more. refl),
        (
          h.standing,
          omega (arith, c, l),
          subst (λ n. IsJudged Dead (surveyed_stage v order n) (collapses m))
              (e ∙ sym c) j,
        ),
      )

  -- stage k + 1 isn't judged
  pub refused_now : (k n : ℕ) (fs : List ForcesValue) (f : StagesError) → IsStagedTo k fs → k < length order
      → n ≡ suc k → GivesOutcome (Err f) n (judgement Dead (surveyed_stage v order n) budget)
      → GivesStages (Err f) (staged v order budget)
  refused_now k n fs (errors.TooWide stage p) h l e g = judged_so k fs (too_wide p) (too_wide_at stage p) h l
      (subst (λ n. judgement Dead (surveyed_stage v order n) budget ≡ too_wide p) e g.1)
      (λ more. ap (λ k. too_wide_at k p) (sym (g.0 ∙ e)))
  refused_now k n fs (errors.Spent stage) h l e g = judged_so k fs spent (spent_at stage) h l
      (subst (λ n. judgement Dead (surveyed_stage v order n) budget ≡ spent) e g.1)
      (λ more. ap spent_at (sym (g.0 ∙ e)))
  refused_now k n fs errors.Memory h l e g = tt
