-- The outcome of directions, by the judgements of their directed surveys: a direction has a reach if its judgement is a
-- greatest factor of which no power or coordinate is too wide, or factors without end. And the first that has none.
use Rattle.std.specs.Prelude.{◌≡◌, ◌⊎◌, ℕ, ◌<◌, ℤ, pos, List, length, get_or, Some, None, Ok, Err}
use Rattle.stack_contact.specs.Surveyed.{Surveyed}
use Rattle.stack_certificate.specs.Certificate.{ForcesValue, MotionValue, collapses, greatest, unbounded}
use Rattle.stack_equilibrium.specs.declared.types.PowerWide.{PowerWide}
use Rattle.stack_equilibrium.specs.declared.types.Question.TheVariants.{Live}
use Rattle.stack_equilibrium.specs.WrittenPowers.{written_power}
use Rattle.stack_judge.specs.Judgement.{Judgement, certified, too_wide, spent, judgement}
use Rattle.stack_pairs.specs.Directed.{directed_survey}
use Rattle.stack_pairs.specs.Reaches.{PointValue, ReachValue, collapse, points}
use Rattle.stack_yield.specs.declared.types.RegionPlace.{RegionPlace}
use Rattle.stack_yield.specs.declared.types.RegionPlace.TheVariants as places
use Rattle.stack_directions.specs.Coordinates.{point_made}
use Rattle.stack_yield.specs.Outcomes.{Outcome, reaches, falls, passes, spends, no_outcome}
use Rattle.stack_yield.specs.Outcomes.{Outcomes, answered, passes_at, spends_at, no_outcomes, outcomes}

-- what stands past the end of a list of directions
abbrev pub no_direction : ℤ × ℤ
no_direction = (pos 0, pos 0)

module _ (s : Surveyed) (i j budget : ℕ) where
  -- the judgement of a direction
  abbrev pub judgement_towards : ℤ × ℤ → Judgement
  judgement_towards d = judgement Live (directed_survey s i j d.0 d.1) budget

  -- a direction is judged to have a greatest factor, with these forces and this motion
  abbrev pub HasGreatest : ℤ × ℤ → ForcesValue → MotionValue → Type 0
  HasGreatest d f y = judgement_towards d ≡ certified (greatest f y)

  -- the power of the first load alone on a motion is made
  abbrev pub FirstIsMade : MotionValue → Type 0
  FirstIsMade y = (p : ℤ) × (written_power Live (directed_survey s i j (pos 1) (pos 0)) y ≡ Ok p)

  -- that of the second load alone is
  abbrev pub SecondIsMade : MotionValue → Type 0
  SecondIsMade y = (p : ℤ) × (written_power Live (directed_survey s i j (pos 0) (pos 1)) y ≡ Ok p)

  -- a direction has a reach: factors without end, or a greatest one of which both powers and both coordinates are made
  abbrev pub HasReach : ℤ × ℤ → Type 0
  HasReach d = ((base : ForcesValue) × (ray : ForcesValue) × (judgement_towards d ≡ certified (unbounded base ray)))
      ⊎ ((f : ForcesValue) × (y : MotionValue) × HasGreatest d f y × FirstIsMade y × SecondIsMade y
      × (p : PointValue) × (point_made d.0 d.1 f ≡ Some p))

  -- a number of it is too wide: of its judgement; or of a greatest factor the power of the first load, else that of the
  -- second, else a coordinate
  abbrev pub DirectionIsTooWide : ℤ × ℤ → RegionPlace → Type 0
  DirectionIsTooWide d (places.Judge p) = judgement_towards d ≡ too_wide p
  DirectionIsTooWide d places.First = (f : ForcesValue) × (y : MotionValue) × HasGreatest d f y
      × (e : PowerWide) × (written_power Live (directed_survey s i j (pos 1) (pos 0)) y ≡ Err e)
  DirectionIsTooWide d places.Second = (f : ForcesValue) × (y : MotionValue) × HasGreatest d f y × FirstIsMade y
      × (e : PowerWide) × (written_power Live (directed_survey s i j (pos 0) (pos 1)) y ≡ Err e)
  DirectionIsTooWide d places.Point = (f : ForcesValue) × (y : MotionValue) × HasGreatest d f y × FirstIsMade y
      × SecondIsMade y
      × (point_made d.0 d.1 f ≡ None)

  -- the outcome of a direction, by its judgement
  abbrev pub IsOutcomeOf : ℤ × ℤ → Outcome → Type 0
  IsOutcomeOf d (reaches r) = HasReach d
  IsOutcomeOf d (falls y) = judgement_towards d ≡ certified (collapses y)
  IsOutcomeOf d (passes p) = DirectionIsTooWide d p
  IsOutcomeOf d spends = judgement_towards d ≡ spent
  IsOutcomeOf d no_outcome = ⊥

  -- the first n directions have reaches
  abbrev pub ReachBefore : List (ℤ × ℤ) → ℕ → Type 0
  ReachBefore ds n = (k : ℕ) → k < n → HasReach (get_or ds k no_direction)

  -- direction number k, from 0, has this outcome, and all before it have reaches: none is refused, none collapses
  pub record IsFirstDirection (ds : List (ℤ × ℤ)) (k : ℕ) (o : Outcome) : Type 0 where
    pub within : k < length ds
    pub earlier : ReachBefore ds k
    pub is : IsOutcomeOf (get_or ds k no_direction) o

  -- the outcome of all directions: each has a reach, or the first that has none collapses or is refused
  abbrev pub AreByDirections : List (ℤ × ℤ) → Outcomes → Type 0
  AreByDirections ds (answered (points rs)) = ReachBefore ds (length ds)
  AreByDirections ds (answered (collapse y)) = (k : ℕ) × IsFirstDirection ds k (falls y)
  AreByDirections ds (passes_at k p) = IsFirstDirection ds k (passes p)
  AreByDirections ds (spends_at k) = IsFirstDirection ds k spends
  AreByDirections ds no_outcomes = ⊥

-- the outcome of all directions is that of the first one that has no reach, or that each has one; no case is left over
abbrev pub OutcomesAreByDirections : Type 0
OutcomesAreByDirections = (s : Surveyed) (i j budget : ℕ) (ds : List (ℤ × ℤ)) →
    AreByDirections s i j budget ds (outcomes s i j budget ds)

-- and each of these decides the outcome of all
pub record FirstDirectionsDecide (s : Surveyed) (i j budget : ℕ) (ds : List (ℤ × ℤ)) : Type 0 where
  pub wide : (k : ℕ) (p : RegionPlace) → IsFirstDirection s i j budget ds k (passes p)
      → outcomes s i j budget ds ≡ passes_at k p
  pub over_budget : (k : ℕ) → IsFirstDirection s i j budget ds k spends → outcomes s i j budget ds ≡ spends_at k
  pub fall : (k : ℕ) (y : MotionValue) → IsFirstDirection s i j budget ds k (falls y)
      → outcomes s i j budget ds ≡ answered (collapse y)
  pub reach : ReachBefore s i j budget ds (length ds)
      → (rs : List ReachValue) × (outcomes s i j budget ds ≡ answered (points rs))

abbrev pub DirectionsAreDecided : Type 0
DirectionsAreDecided = (s : Surveyed) (i j budget : ℕ) (ds : List (ℤ × ℤ)) → FirstDirectionsDecide s i j budget ds
