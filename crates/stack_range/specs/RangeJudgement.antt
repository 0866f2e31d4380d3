-- The judgement of a range as one value: the range, the first number that is too wide with its side, or that the budget
-- is spent on a side. Whether a live load is listed is asked before.
use Rattle.std.specs.Prelude.{◌≡◌, ℕ, Result, Ok, Err, ⊤}
use Rattle.stack_contact.specs.Surveyed.{Surveyed}
use Rattle.stack_certificate.specs.Certificate.{stands, collapses, greatest, unbounded}
use Rattle.stack_equilibrium.specs.declared.types.Question.TheVariants.{Live}
use Rattle.stack_judge.specs.declared.types.JudgePlace.{JudgePlace}
use Rattle.stack_judge.specs.Judgement.{Judgement, certified, too_wide, spent, unjudged, judgement, LacksLive}
use Rattle.stack_range.specs.declared.types.Side.{Side}
use Rattle.stack_range.specs.declared.types.Side.TheVariants.{Greatest, Least}
use Rattle.stack_range.specs.declared.types.Range.{Range}
use Rattle.stack_range.specs.declared.types.RangeError.{RangeError}
use Rattle.stack_range.specs.declared.types.RangeError.TheVariants as errors
use Rattle.stack_range.specs.Reversed.{reversed_survey}
use Rattle.stack_range.specs.CarriedFactors.{EndValue, at, unlimited, range_end_certificate}
use Rattle.stack_range.specs.Ranged.{RangeValue, collapsing, between, range_view, side_judgement, IsReached}

-- the range is found, a number of a side is too wide, or the budget is spent on a side
pub data RangeJudgement : Type 0 where
  told : RangeValue → RangeJudgement
  wide_on : Side → JudgePlace → RangeJudgement
  spent_on : Side → RangeJudgement
  -- none of these, which never comes
  no_range : RangeJudgement

-- the range by the judgement of the least side, with the other end. There is no other certificate there, since the dead
-- loads stand; and no end is left unjudged
abbrev pub by_least : EndValue → Judgement → RangeJudgement
by_least high (certified (greatest f y)) = told (between (at f y) high)
by_least high (certified (unbounded base ray)) = told (between (unlimited base ray) high)
by_least high (certified (collapses y)) = no_range
by_least high (certified (stands f)) = no_range
by_least high (too_wide p) = wide_on Least p
by_least high spent = spent_on Least
by_least high unjudged = no_range

-- the range by the judgements of both sides, the greatest first. `stands` never answers a question about live loads,
-- and no end is left unjudged
abbrev pub by_sides : Judgement → Judgement → RangeJudgement
by_sides (certified (greatest f y)) least = by_least (at f y) least
by_sides (certified (unbounded base ray)) least = by_least (unlimited base ray) least
by_sides (certified (collapses y)) least = told (collapsing y)
by_sides (certified (stands f)) least = no_range
by_sides (too_wide p) least = wide_on Greatest p
by_sides spent least = spent_on Greatest
by_sides unjudged least = no_range

-- the judgement of a survey's range within a budget of pivots a side, by the written runs of both sides
abbrev pub range_judgement : Surveyed → (budget : ℕ) → RangeJudgement
range_judgement v budget = by_sides (judgement Live v budget) (judgement Live (reversed_survey v) budget)

-- what a judgement of a range says of those of its sides: a collapse is that of the greatest side, a range has both
-- ends, and the side that is refused is one that is judged at all
abbrev pub AreSides : Surveyed → (budget : ℕ) → RangeJudgement → Type 0
AreSides v budget (told (collapsing y)) = side_judgement Greatest v budget ≡ certified (collapses y)
AreSides v budget (told (between low high)) =
    (side_judgement Greatest v budget ≡ certified (range_end_certificate high))
    × (side_judgement Least v budget ≡ certified (range_end_certificate low))
AreSides v budget (wide_on side p) = IsReached side v budget × (side_judgement side v budget ≡ too_wide p)
AreSides v budget (spent_on side) = IsReached side v budget × (side_judgement side v budget ≡ spent)
AreSides v budget no_range = ⊥

-- what is answered: exactly this, unless no live load is listed. `Memory` may come at any time
abbrev pub JudgesRange : Result Range RangeError → Surveyed → (budget : ℕ) → Type 0
JudgesRange (Ok r) v budget = (¬ (LacksLive Live v)) × (range_judgement v budget ≡ told (range_view r))
JudgesRange (Err (errors.TooWide side p)) v budget = (¬ (LacksLive Live v))
    × (range_judgement v budget ≡ wide_on side p)
JudgesRange (Err (errors.Spent side)) v budget = (¬ (LacksLive Live v)) × (range_judgement v budget ≡ spent_on side)
JudgesRange (Err errors.NoLive) v budget = LacksLive Live v
JudgesRange (Err errors.Memory) v budget = ⊤
