-- The work on `yield MODEL I J DIRS [PIVOTS]`: the survey of the model, the two loads that the numbers name, the file
-- of the directions and its text, and the judgement of one direction after the other.
use Rattle.std.specs.Prelude.{ℕ, ◌+◌, ℤ, List, Result, Ok, Err}
use Rattle.stack_model.specs.Structure.{Structure}
use Rattle.stack_contact.specs.Surveyed.{Surveyed}
use Rattle.stack_yield.specs.declared.types.RegionPlace.{RegionPlace}
use Rattle.stack_yield.specs.declared.types.RegionPlace.TheVariants as places
use Rattle.stack_directions.specs.declared.naming.LoadPair.{LoadPair}
use Rattle.stack_directions.specs.Directions.{directions_of}
use Rattle.stack_directions.specs.Pairing.{pair_of}
use Rattle.stack_yield.specs.Outcomes.{Outcomes, answered, passes_at, spends_at, no_outcomes, outcomes}
use Rattle.stack_lines.specs.declared.refusal.Input.TheVariants as inputs
use Rattle.stack_lines.specs.declared.refusal.Within.TheVariants.{Direction}
use Rattle.stack_lines.specs.declared.refusal.ReachPlace.TheVariants.{First, Second, Point}
use Rattle.stack_lines.specs.Refusals.{Fault, directions_line, wide_reach, over_budget, no_pair, memory}
use Rattle.stack_work.specs.Answers.{Due, region_due}
use Rattle.stack_work.specs.Judging.{wide_within}
use Rattle.stack_work.specs.Work.{Work, gives, refuses, ◌>>=◌}
use Rattle.stack_work.specs.Surveying.{read, surveyed_file}

-- Two numbers name two loads, or are refused with the one at fault.
abbrev pub loads_step : Result LoadPair ℕ → Work LoadPair
loads_step (Ok loads) = gives loads
loads_step (Err load) = refuses (no_pair load)

-- A text gives directions, or is refused with its first faulty line.
abbrev pub directions_step : Result (List (ℤ × ℤ)) ℕ → Work (List (ℤ × ℤ))
directions_step (Ok ds) = gives ds
directions_step (Err number) = refuses (directions_line number)

-- A number of a direction that is too wide is named within the direction: as that of any judgement, or by which number
-- of the reach it is. The blocks are those of the model, whose bodies each direction keeps.
abbrev pub wide_toward : (number : ℕ) → Structure → RegionPlace → Fault
wide_toward number s (places.Judge p) = wide_within (Direction number) s p
wide_toward number s places.First = wide_reach (Direction number) First
wide_toward number s places.Second = wide_reach (Direction number) Second
wide_toward number s places.Point = wide_reach (Direction number) Point

-- A region is given out; a number that is too wide and a budget that is spent are refused. Directions go by their
-- numbers from 1. The last case never comes.
abbrev pub region_step : (budget : ℕ) → Surveyed → (i j : ℕ) → List (ℤ × ℤ) → Outcomes → Work Due
region_step budget v i j ds (answered r) = gives (region_due v i j ds r)
region_step budget v i j ds (passes_at k p) = refuses (wide_toward (k + 1) v.structure p)
region_step budget v i j ds (spends_at k) = refuses (over_budget budget)
region_step budget v i j ds no_outcomes = refuses memory

-- A text of directions, up to the region of two loads in them.
abbrev pub directions_work : (budget : ℕ) → Surveyed → LoadPair → List ℕ → Work Due
directions_work budget v loads text = do
  ds ← directions_step (directions_of text)
  region_step budget v loads.i loads.j ds (outcomes v loads.i loads.j budget ds)

-- The file of the directions is read, and the region of two loads in them is judged.
unfoldable pub directed_file : List ℕ → (budget : ℕ) → Surveyed → LoadPair → Work Due
directed_file name budget v loads = do
  text ← read inputs.Directions name
  directions_work budget v loads text

-- The loads come first: unless both numbers name one, the directions aren't asked for.
unfoldable pub paired_file : (i j : ℕ) → List ℕ → (budget : ℕ) → Surveyed → Work Due
paired_file i j name budget v = do
  loads ← loads_step (pair_of v.structure i j)
  directed_file name budget v loads

-- The model comes before the loads: unless it has a survey, no loads are looked for.
unfoldable pub yield_work : List ℕ → (i j : ℕ) → List ℕ → (budget : ℕ) → Work Due
yield_work model i j directions budget = do
  survey ← surveyed_file model
  paired_file i j directions budget survey
