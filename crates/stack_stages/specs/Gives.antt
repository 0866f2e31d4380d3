-- What judging stages answers, against their outcome. `Memory` may come at any time.
use Rattle.std.specs.Prelude.{◌≡◌, ℕ, List, map, Result, Ok, Err, ⊤}
use Rattle.stack_certificate.specs.Certificate.{CertificateValue, forces_view, motion_view, stands, collapses}
use Rattle.stack_judge.specs.declared.types.JudgeError.{JudgeError}
use Rattle.stack_judge.specs.declared.types.JudgeError.TheVariants as judging
use Rattle.stack_judge.specs.Judgement.{Judgement, certified, too_wide, spent}
use Rattle.stack_stages.specs.declared.types.Outcome.{Outcome}
use Rattle.stack_stages.specs.declared.types.Outcome.TheVariants as outcomes
use Rattle.stack_stages.specs.declared.types.Stages.{Stages}
use Rattle.stack_stages.specs.declared.types.Stages.TheVariants as answers
use Rattle.stack_stages.specs.declared.types.StagesError.{StagesError}
use Rattle.stack_stages.specs.declared.types.StagesError.TheVariants as errors
use Rattle.stack_stages.specs.Staged.{Staged, all_stand, falls, too_wide_at, spent_at, IsFirstStage}
use Rattle.stack_contact.specs.Surveyed.{Surveyed}

-- what is answered, without where it lies in memory
abbrev pub stages_view : Stages → Staged
stages_view (answers.AllStand fs) = all_stand (map forces_view fs.items)
stages_view (answers.Falls fs m) = falls (map forces_view fs.items) (motion_view m)

-- the certificate of one stage
abbrev pub outcome_view : Outcome → CertificateValue
outcome_view (outcomes.Stands f) = stands (forces_view f)
outcome_view (outcomes.Collapses m) = collapses (motion_view m)

-- why a stage isn't judged
abbrev pub unjudged_at : ℕ → JudgeError → StagesError
unjudged_at k (judging.TooWide p) = errors.TooWide k p
unjudged_at k (judging.Spent n) = errors.Spent k
unjudged_at k judging.NoLive = errors.Memory
unjudged_at k judging.Memory = errors.Memory

-- the judgement of stage k
abbrev pub GivesOutcome : Result Outcome StagesError → ℕ → Judgement → Type 0
GivesOutcome (Ok x) k j = j ≡ certified (outcome_view x)
GivesOutcome (Err (errors.TooWide stage p)) k j = (stage ≡ k) × (j ≡ too_wide p)
GivesOutcome (Err (errors.Spent stage)) k j = (stage ≡ k) × (j ≡ spent)
GivesOutcome (Err errors.Memory) k j = ⊤

-- exactly the outcome of the stages
abbrev pub GivesStages : Result Stages StagesError → Staged → Type 0
GivesStages (Ok r) x = x ≡ stages_view r
GivesStages (Err (errors.TooWide stage p)) x = x ≡ too_wide_at stage p
GivesStages (Err (errors.Spent stage)) x = x ≡ spent_at stage
GivesStages (Err errors.Memory) x = ⊤

-- a stage that is refused is the first that doesn't stand
abbrev pub RefusesFirstStage : Result Stages StagesError → Surveyed → List ℕ → (budget : ℕ) → Type 0
RefusesFirstStage (Ok r) v order budget = ⊤
RefusesFirstStage (Err (errors.TooWide stage p)) v order budget = IsFirstStage v order budget stage (too_wide p)
RefusesFirstStage (Err (errors.Spent stage)) v order budget = IsFirstStage v order budget stage spent
RefusesFirstStage (Err errors.Memory) v order budget = ⊤
