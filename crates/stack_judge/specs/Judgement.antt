-- The judgement of a survey: the certificate of the end of its written run at 128 bits, the place of the first number
-- that is too wide, or that the budget is spent. A question about live loads needs one: that is asked before, and is a
-- case of `Judges` alone.
use Rattle.std.specs.Prelude.{◌≡◌, ◌≢◌, ℕ, Option, Some, None, Result, Ok, Err, ⊤}
use Rattle.stack_algebra.specs.Fraction.{Fraction}
use Rattle.stack_rational.specs.Laws.{widest}
use Rattle.stack_model.specs.Structure.{HasLive}
use Rattle.stack_contact.specs.Surveyed.{Surveyed}
use Rattle.stack_certificate.specs.declared.types.Certificate.{Certificate}
use Rattle.stack_certificate.specs.Certificate.{CertificateValue, certificate_view}
use Rattle.stack_equilibrium.specs.declared.types.Question.{Question}
use Rattle.stack_equilibrium.specs.declared.types.Question.TheVariants.{Dead, Live}
use Rattle.stack_equilibrium.specs.SurveyScene.{scene_of}
use Rattle.stack_table.specs.declared.types.PivotWide.{PivotWide}
use Rattle.stack_run.specs.WrittenRun.{End, infeasible, feasible, optimal, ray, wide, over, never}
use Rattle.stack_run.specs.ProblemRun.{run_at}
use Rattle.stack_run.specs.declared.place.RunPlace.{RunPlace}
use Rattle.stack_posing.specs.Posed.{posed}
use Rattle.stack_extract.specs.Certified.{end_certificate}
use Rattle.stack_judge.specs.declared.types.JudgePlace.{JudgePlace}
use Rattle.stack_judge.specs.declared.types.JudgePlace.TheVariants as places
use Rattle.stack_judge.specs.declared.types.JudgeError.{JudgeError}
use Rattle.stack_judge.specs.declared.types.JudgeError.TheVariants as errors
use Rattle.stack_judge.specs.EndPlace.{end_place}

-- a certificate is found, a number is too wide, or the budget is spent. No end is ever unjudged
pub data Judgement : Type 0 where
  certified : CertificateValue → Judgement
  too_wide : JudgePlace → Judgement
  spent : Judgement
  unjudged : Judgement

-- the place of a run
abbrev pub run_place : (phase pivot : ℕ) → PivotWide → RunPlace
run_place p k s = record { phase = p; pivot = k; row = s.row; column = s.column; step = s.step }

-- an end by the first place that is too wide, and by its certificate. Each end has one
abbrev pub judged_by : Option JudgePlace → Option CertificateValue → Judgement
judged_by (Some p) c = too_wide p
judged_by None (Some c) = certified c
judged_by None None = unjudged

-- the judgement of the value of a run
abbrev pub judgement_of : Question → Surveyed → End Fraction → Judgement
judgement_of q v (wide p k s) = too_wide (places.Run (run_place p k s))
judgement_of q v over = spent
judgement_of q v never = unjudged
judgement_of q v (infeasible T) = judged_by (end_place q v (infeasible T)) (end_certificate q v (infeasible T))
judgement_of q v (feasible T) = judged_by (end_place q v (feasible T)) (end_certificate q v (feasible T))
judgement_of q v (optimal T) = judged_by (end_place q v (optimal T)) (end_certificate q v (optimal T))
judgement_of q v (ray T c) = judged_by (end_place q v (ray T c)) (end_certificate q v (ray T c))

-- the written run of a survey's problem, at 128 bits
abbrev pub survey_run : Question → Surveyed → (budget : ℕ) → End Fraction
survey_run q v budget = run_at widest (posed q (scene_of v)) budget

-- the judgement of a question of a survey within a budget of pivots, by its written run
abbrev pub judgement : Question → Surveyed → (budget : ℕ) → Judgement
judgement q v budget = judgement_of q v (survey_run q v budget)

-- no end is left unjudged
abbrev pub EachEndIsJudged : Type 0
EachEndIsJudged = (q : Question) (v : Surveyed) (budget : ℕ) → judgement q v budget ≢ unjudged

-- the question is about live loads, and none is listed
abbrev pub LacksLive : Question → Surveyed → Type 0
LacksLive Dead v = ⊥
LacksLive Live v = ¬ (HasLive v.structure)

-- what is answered: exactly the judgement, unless no live load is listed. `Memory` may come at any time
abbrev pub Judges : Result Certificate JudgeError → Question → Surveyed → (budget : ℕ) → Type 0
Judges (Ok c) q v budget = (¬ (LacksLive q v)) × (judgement q v budget ≡ certified (certificate_view c))
Judges (Err (errors.TooWide p)) q v budget = (¬ (LacksLive q v)) × (judgement q v budget ≡ too_wide p)
Judges (Err (errors.Spent n)) q v budget = (¬ (LacksLive q v)) × (judgement q v budget ≡ spent) × (n ≡ budget)
Judges (Err errors.NoLive) q v budget = LacksLive q v
Judges (Err errors.Memory) q v budget = ⊤
