-- What the code answers of directions, against what is defined; memory may run out at any time.
use Rattle.std.specs.Prelude.{◌≡◌, ℕ, ℤ, List, Result, Ok, Err, ⊤}
use Rattle.stack_contact.specs.Surveyed.{Surveyed}
use Rattle.stack_certificate.specs.Certificate.{motion_view, collapses}
use Rattle.stack_equilibrium.specs.declared.types.Question.TheVariants.{Live}
use Rattle.stack_judge.specs.Judged.{IsJudged}
use Rattle.stack_pairs.specs.Reaches.{IsReach}
use Rattle.stack_directions.specs.declared.directing.Towards.{Towards}
use Rattle.stack_yield.specs.declared.judging.DirectionAnswer.{DirectionAnswer}
use Rattle.stack_yield.specs.declared.judging.DirectionAnswer.TheVariants.{Reaches, Falls}
use Rattle.stack_yield.specs.declared.judging.DirectionStop.{DirectionStop}
use Rattle.stack_yield.specs.declared.judging.DirectionStop.TheVariants as stops
use Rattle.stack_yield.specs.declared.types.Region.{Region}
use Rattle.stack_yield.specs.declared.types.RegionError.{RegionError}
use Rattle.stack_yield.specs.declared.types.RegionError.TheVariants.{TooWide, Spent, Memory}
use Rattle.stack_yield.specs.Kept.{reach_view, region_view}
use Rattle.stack_yield.specs.JudgedReaches.{PointFits, HalfFits, ReachIsJudged}
use Rattle.stack_yield.specs.Outcomes.{Outcome, reaches, falls, passes, spends}
use Rattle.stack_yield.specs.ByDirections.{IsFirstDirection}
use Rattle.stack_yield.specs.Outcomes.{answered, passes_at, spends_at, outcomes}

-- what a direction gives
abbrev pub outcome_of_answer : DirectionAnswer → Outcome
outcome_of_answer (Reaches r) = reaches (reach_view r)
outcome_of_answer (Falls y) = falls (motion_view y)

-- what is answered of a direction is its outcome
abbrev pub IsOutcome : Result DirectionAnswer DirectionStop → Outcome → Type 0
IsOutcome (Ok t) o = o ≡ outcome_of_answer t
IsOutcome (Err (stops.TooWide p)) o = o ≡ passes p
IsOutcome (Err stops.Spent) o = o ≡ spends
IsOutcome (Err stops.Memory) o = ⊤

-- the numbers of the point and the half-plane of what a direction gives fit
abbrev pub AnswerFits : DirectionAnswer → Type 0
AnswerFits (Reaches r) = PointFits r.point × HalfFits r.half
AnswerFits (Falls y) = ⊤

-- a reach is one of the survey, with a certificate that is judged; a collapse is a judged one of the survey itself
abbrev pub AnswerHolds : Surveyed → (i j : ℕ) → DirectionAnswer → Type 0
AnswerHolds s i j (Reaches r) = IsReach s i j (reach_view r) × ReachIsJudged s i j (reach_view r)
AnswerHolds s i j (Falls y) = IsJudged Live s (collapses (motion_view y))

-- what is answered of all directions
abbrev pub Regions : Result Region RegionError → Surveyed → (i j budget : ℕ) → List (ℤ × ℤ) → Type 0
Regions (Ok r) s i j budget ds = outcomes s i j budget ds ≡ answered (region_view r)
Regions (Err (TooWide k p)) s i j budget ds = outcomes s i j budget ds ≡ passes_at k p
Regions (Err (Spent k)) s i j budget ds = outcomes s i j budget ds ≡ spends_at k
Regions (Err Memory) s i j budget ds = ⊤

-- a direction that is refused is the first that has no reach, and why it has none
abbrev pub RefusesFirstDirection : Result Region RegionError → Surveyed → (i j budget : ℕ) → List (ℤ × ℤ) → Type 0
RefusesFirstDirection (Ok r) s i j budget ds = ⊤
RefusesFirstDirection (Err (TooWide k p)) s i j budget ds = IsFirstDirection s i j budget ds k (passes p)
RefusesFirstDirection (Err (Spent k)) s i j budget ds = IsFirstDirection s i j budget ds k spends
RefusesFirstDirection (Err Memory) s i j budget ds = ⊤

-- why there is no region if direction number k has no reach
abbrev pub region_refusal : DirectionStop → ℕ → RegionError
region_refusal (stops.TooWide p) k = TooWide k p
region_refusal stops.Spent k = Spent k
region_refusal stops.Memory k = Memory

-- two loads and a direction
abbrev pub towards_of : (i j : ℕ) → ℤ × ℤ → Towards
towards_of i j d = record { i = i; j = j; m = d.0; n = d.1 }
