-- The outcome of the stages of an order, one after the other: all stand, one falls, or one isn't judged.
use Rattle.std.specs.Prelude.{◌≡◌, ℕ, zero, suc, ◌<◌, List, [], ◌∷◌, ◌++◌, length, Some, slice_get}
use lib.IntN.{ℤ, pos}
use Rattle.stack_algebra.specs.IntegerOrder.{◌≺◌}
use Rattle.stack_contact.specs.Surveyed.{Surveyed}
use Rattle.stack_certificate.specs.Certificate.{ForcesValue, MotionValue, stands, collapses}
use Rattle.stack_certificate.specs.Certificate.{greatest, unbounded}
use Rattle.stack_equilibrium.specs.declared.types.Question.TheVariants.{Dead}
use Rattle.stack_statics.specs.Balance.{Carries}
use Rattle.stack_equilibrium.specs.SurveyScene.{scene_of}
use Rattle.stack_judge.specs.declared.types.JudgePlace.{JudgePlace}
use Rattle.stack_judge.specs.Judgement.{Judgement, certified, too_wide, spent, unjudged, judgement}
use Rattle.stack_judge.specs.Judged.{IsJudged}
use Rattle.stack_stages.specs.Stage.{surveyed_stage}

-- each stage stands by its forces; the first ones stand, and the next collapses by a motion; a number of this stage,
-- from 1, is too wide; its budget is spent; or none of these, which never comes
pub data Staged : Type 0 where
  all_stand : List ForcesValue → Staged
  falls : List ForcesValue → MotionValue → Staged
  too_wide_at : (stage : ℕ) → JudgePlace → Staged
  spent_at : (stage : ℕ) → Staged
  no_stages : Staged

-- the outcome of a stage, behind those that stand by these forces. The dead loads alone are asked about, so a
-- certificate is one of standing or of a collapse; and no end is left unjudged
abbrev pub staged_by : (List ForcesValue → Staged) → (stage : ℕ) → List ForcesValue → Judgement → Staged
staged_by more stage fs (certified (stands f)) = more (fs ++ f ∷ [])
staged_by more stage fs (certified (collapses m)) = falls fs m
staged_by more stage fs (certified (greatest f m)) = no_stages
staged_by more stage fs (certified (unbounded f r)) = no_stages
staged_by more stage fs (too_wide p) = too_wide_at stage p
staged_by more stage fs spent = spent_at stage
staged_by more stage fs unjudged = no_stages

-- the outcome of the stages behind stage k, which are so many
abbrev pub staged_from : Surveyed → List ℕ → (budget : ℕ) → (left k : ℕ) → List ForcesValue → Staged
staged_from v order budget zero k fs = all_stand fs
staged_from v order budget (suc left) k fs =
    staged_by (staged_from v order budget left (suc k)) (suc k) fs
    (judgement Dead (surveyed_stage v order (suc k)) budget)

-- the outcome of all stages of an order
abbrev pub staged : Surveyed → List ℕ → (budget : ℕ) → Staged
staged v order budget = staged_from v order budget (length order) 0 []

-- list k, from 1, makes a true certificate that stage k stands
abbrev pub AreStandingStages : Surveyed → List ℕ → List ForcesValue → Type 0
AreStandingStages v order fs = (k : ℕ) (f : ForcesValue) → slice_get fs k ≡ Some f
    → IsJudged Dead (surveyed_stage v order (suc k)) (stands f)

-- all stages stand, or the first ones do and the next one collapses
abbrev pub AreTrue : Surveyed → List ℕ → Staged → Type 0
AreTrue v order (all_stand fs) = AreStandingStages v order fs × (length fs ≡ length order)
AreTrue v order (falls fs m) = AreStandingStages v order fs × (length fs < length order)
    × IsJudged Dead (surveyed_stage v order (suc (length fs))) (collapses m)
AreTrue v order (too_wide_at stage p) = ⊥
AreTrue v order (spent_at stage) = ⊥
AreTrue v order no_stages = ⊥

-- the dead loads of the first stages are carried
abbrev pub AreCarried : Surveyed → List ℕ → ℕ → Type 0
AreCarried v order n = (k : ℕ) → k < n → Carries (scene_of (surveyed_stage v order (suc k))) (pos 0) (pos 1)

-- the dead loads of all stages are carried, or those of the first stages are, and those of the next at no scale
abbrev pub StandAndFall : Surveyed → List ℕ → Staged → Type 0
StandAndFall v order (all_stand fs) = AreCarried v order (length order)
StandAndFall v order (falls fs m) = AreCarried v order (length fs)
    × ((D : ℤ) → pos 0 ≺ D → ¬ (Carries (scene_of (surveyed_stage v order (suc (length fs)))) (pos 0) D))
StandAndFall v order (too_wide_at stage p) = ⊥
StandAndFall v order (spent_at stage) = ⊥
StandAndFall v order no_stages = ⊥

-- the first n stages are judged to stand
abbrev pub StandBefore : Surveyed → List ℕ → (budget : ℕ) → ℕ → Type 0
StandBefore v order budget n = (k : ℕ) → k < n →
    (f : ForcesValue) × (judgement Dead (surveyed_stage v order (suc k)) budget ≡ certified (stands f))

-- stage number `stage`, from 1, is judged so, and all before it to stand
pub record IsFirstStage (v : Surveyed) (order : List ℕ) (budget stage : ℕ) (j : Judgement) : Type 0 where
  pub before : ℕ
  pub is_next : stage ≡ suc before
  pub within : before < length order
  pub earlier : StandBefore v order budget before
  pub is : judgement Dead (surveyed_stage v order stage) budget ≡ j

-- each stage is judged to stand
abbrev pub AllAreJudged : Surveyed → List ℕ → (budget : ℕ) → Type 0
AllAreJudged v order budget = StandBefore v order budget (length order)

-- the outcome of stages, by their judgements: all are judged to stand; or the first that isn't collapses, a number of
-- it is too wide, or its budget is spent
abbrev pub AreByStages : Surveyed → List ℕ → (budget : ℕ) → Staged → Type 0
AreByStages v order budget (all_stand fs) = AllAreJudged v order budget
AreByStages v order budget (falls fs m) = IsFirstStage v order budget (suc (length fs)) (certified (collapses m))
AreByStages v order budget (too_wide_at stage p) = IsFirstStage v order budget stage (too_wide p)
AreByStages v order budget (spent_at stage) = IsFirstStage v order budget stage spent
AreByStages v order budget no_stages = ⊥

-- the outcome of all stages agrees so with the judgement of each, and no case is left over
abbrev pub StagesAreByStages : Type 0
StagesAreByStages = (v : Surveyed) (order : List ℕ) (budget : ℕ) → AreByStages v order budget (staged v order budget)

-- the first stage of which a number is too wide, or whose budget is spent, decides the outcome of all, and so does a
-- first one that collapses; if all are judged to stand, all stand
pub record FirstStagesDecide (v : Surveyed) (order : List ℕ) (budget : ℕ) : Type 0 where
  pub wide : (stage : ℕ) (p : JudgePlace) → IsFirstStage v order budget stage (too_wide p)
      → staged v order budget ≡ too_wide_at stage p
  pub over_budget : (stage : ℕ) → IsFirstStage v order budget stage spent → staged v order budget ≡ spent_at stage
  pub fall : (stage : ℕ) (m : MotionValue) → IsFirstStage v order budget stage (certified (collapses m))
      → (fs : List ForcesValue) × (staged v order budget ≡ falls fs m) × (stage ≡ suc (length fs))
  pub stand : AllAreJudged v order budget → (fs : List ForcesValue) × (staged v order budget ≡ all_stand fs)

abbrev pub StagesAreDecided : Type 0
StagesAreDecided = (v : Surveyed) (order : List ℕ) (budget : ℕ) → FirstStagesDecide v order budget
