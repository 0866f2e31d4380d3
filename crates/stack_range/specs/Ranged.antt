-- The range of a survey, by the judgements of its two sides, and what it says of the factors that are carried.
use Rattle.std.specs.Prelude.{◌≡◌, ℕ, Result, Ok, Err, ⊤}
use Rattle.stack_contact.specs.Surveyed.{Surveyed}
use Rattle.stack_certificate.specs.Certificate.{MotionValue, CertificateValue, collapses, forces_view, motion_view}
use Rattle.stack_equilibrium.specs.declared.types.Question.TheVariants.{Live}
use Rattle.stack_statics.specs.Scene.{IsProper}
use Rattle.stack_equilibrium.specs.SurveyScene.{scene_of}
use Rattle.stack_judge.specs.declared.types.JudgeError.{JudgeError}
use Rattle.stack_judge.specs.declared.types.JudgeError.TheVariants as judge_errors
use Rattle.stack_judge.specs.Judgement.{Judgement, certified, too_wide, spent, judgement, LacksLive}
use Rattle.stack_judge.specs.Judged.{IsJudged}
use Rattle.stack_range.specs.declared.types.Side.{Side}
use Rattle.stack_range.specs.declared.types.Side.TheVariants as sides
use Rattle.stack_range.specs.declared.types.End.{End}
use Rattle.stack_range.specs.declared.types.End.TheVariants as ends
use Rattle.stack_range.specs.declared.types.Range.{Range}
use Rattle.stack_range.specs.declared.types.Range.TheVariants as ranges
use Rattle.stack_range.specs.declared.types.RangeError.{RangeError}
use Rattle.stack_range.specs.declared.types.RangeError.TheVariants as errors
use Rattle.stack_range.specs.declared.ranging.OneSide.{OneSide}
use Rattle.stack_range.specs.declared.ranging.OneSide.TheVariants as halves
use Rattle.stack_range.specs.Reversed.{reversed_survey}
use Rattle.stack_range.specs.CarriedFactors.{EndValue, at, unlimited, range_end_certificate, AreCarriedBetween}

-- a collapse, or both ends
pub data RangeValue : Type 0 where
  collapsing : MotionValue → RangeValue
  between : (low high : EndValue) → RangeValue

-- an end without where it lies in memory
abbrev pub end_view : End → EndValue
end_view (ends.At f y) = at (forces_view f) (motion_view y)
end_view (ends.Unlimited base ray) = unlimited (forces_view base) (forces_view ray)

-- a range without where it lies in memory
abbrev pub range_view : Range → RangeValue
range_view (ranges.Collapses y) = collapsing (motion_view y)
range_view (ranges.Between low high) = between (end_view low) (end_view high)

-- the survey that is judged on a side
abbrev pub side_survey : Side → Surveyed → Surveyed
side_survey sides.Greatest v = v
side_survey sides.Least v = reversed_survey v

-- the judgement of a side, by its written run
abbrev pub side_judgement : Side → Surveyed → (budget : ℕ) → Judgement
side_judgement side v budget = judgement Live (side_survey side v) budget

-- the greatest side is judged and is no collapse, as the least one needs
abbrev pub IsReached : Side → Surveyed → (budget : ℕ) → Type 0
IsReached sides.Greatest v budget = ⊤
IsReached sides.Least v budget = (e : EndValue)
    × (side_judgement sides.Greatest v budget ≡ certified (range_end_certificate e))

-- what is answered: exactly this, except that `Memory` may come at any time
abbrev pub AnswersBySides : Result Range RangeError → Surveyed → (budget : ℕ) → Type 0
AnswersBySides (Ok (ranges.Collapses y)) v budget = (¬ (LacksLive Live v))
    × (side_judgement sides.Greatest v budget ≡ certified (collapses (motion_view y)))
AnswersBySides (Ok (ranges.Between low high)) v budget = (¬ (LacksLive Live v))
    × (side_judgement sides.Greatest v budget ≡ certified (range_end_certificate (end_view high)))
    × (side_judgement sides.Least v budget ≡ certified (range_end_certificate (end_view low)))
AnswersBySides (Err (errors.TooWide side p)) v budget = (¬ (LacksLive Live v)) × IsReached side v budget
    × (side_judgement side v budget ≡ too_wide p)
AnswersBySides (Err (errors.Spent side)) v budget = (¬ (LacksLive Live v)) × IsReached side v budget
    × (side_judgement side v budget ≡ spent)
AnswersBySides (Err errors.NoLive) v budget = LacksLive Live v
AnswersBySides (Err errors.Memory) v budget = ⊤

-- the range between two ends: each a judged certificate of its side, and between them exactly what is carried
pub record IsRangeBetween (v : Surveyed) (low high : EndValue) : Type 0 where
  pub greatest_holds : IsJudged Live v (range_end_certificate high)
  pub least_holds : IsJudged Live (reversed_survey v) (range_end_certificate low)
  pub exact : AreCarriedBetween v low high

-- what a range says of the structure
abbrev pub IsRange : Surveyed → RangeValue → Type 0
IsRange v (collapsing y) = IsJudged Live v (collapses y)
IsRange v (between low high) = IsRangeBetween v low high

-- the certificate of one side
abbrev pub side_certificate : OneSide → CertificateValue
side_certificate (halves.Ends e) = range_end_certificate (end_view e)
side_certificate (halves.Falls y) = collapses (motion_view y)

-- the certificate of a side is judged, and its scene is one that the laws speak of
pub record IsSideJudged (v : Surveyed) (h : OneSide) : Type 0 where
  pub judged : IsJudged Live v (side_certificate h)
  pub proper : IsProper (scene_of v)

-- what a side's judgement answers, by its own survey
abbrev pub JudgesSide : Result OneSide RangeError → Side → Surveyed → (budget : ℕ) → Type 0
JudgesSide (Ok h) side v budget = (¬ (LacksLive Live v)) × (judgement Live v budget ≡ certified (side_certificate h))
JudgesSide (Err (errors.TooWide other p)) side v budget = (other ≡ side) × (¬ (LacksLive Live v))
    × (judgement Live v budget ≡ too_wide p)
JudgesSide (Err (errors.Spent other)) side v budget = (other ≡ side) × (¬ (LacksLive Live v))
    × (judgement Live v budget ≡ spent)
JudgesSide (Err errors.NoLive) side v budget = LacksLive Live v
JudgesSide (Err errors.Memory) side v budget = ⊤

-- why there is no range if a side isn't judged
abbrev pub range_refusal : JudgeError → Side → RangeError
range_refusal (judge_errors.TooWide p) side = errors.TooWide side p
range_refusal (judge_errors.Spent n) side = errors.Spent side
range_refusal judge_errors.NoLive side = errors.NoLive
range_refusal judge_errors.Memory side = errors.Memory
