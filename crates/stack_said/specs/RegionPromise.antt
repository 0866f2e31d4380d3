-- What `yield MODEL I J DIRS [PIVOTS]` promises, on the survey of its model, if the directions' file has these bytes.
use Rattle.std.specs.Prelude.{◌≡◌, ℕ, ◌+◌, ◌<◌, ℤ, List, Result, Ok, Err, length}
use Rattle.stack_contact.specs.Surveyed.{Surveyed}
use Rattle.stack_certificate.specs.Certificate.{MotionValue, collapses}
use Rattle.stack_checker.specs.Shown.{DeadLoadsFall}
use Rattle.stack_pairs.specs.Reaches.{ReachValue, collapse, points, ArePoints}
use Rattle.stack_directions.specs.declared.naming.LoadPair.{LoadPair}
use Rattle.stack_directions.specs.Directions.{directions_of}
use Rattle.stack_directions.specs.Pairing.{pair_of}
use Rattle.stack_yield.specs.declared.types.RegionPlace.{RegionPlace}
use Rattle.stack_yield.specs.Outcomes.{falls, passes, spends}
use Rattle.stack_yield.specs.ByDirections.{ReachBefore, IsFirstDirection}
use Rattle.stack_lines.specs.declared.refusal.Input.TheVariants as inputs
use Rattle.stack_lines.specs.Refusals.{Fault, long, no_pair, directions_line, over_budget}
use Rattle.stack_work.specs.Answers.{Due, region_due}
use Rattle.stack_work.specs.Surveying.{greatest_file}
use Rattle.stack_work.specs.Yielding.{wide_toward}
use Rattle.stack_said.specs.Promise.{IsShort, Promise}

-- Each direction has a reach; this direction is the first without one, since the dead loads alone collapse; a number
-- names no such live load; the file of directions is too long; it has this first faulty line; this direction, counted
-- from 0, is the first without a reach, since a number of its judgement is too wide, or since the budget is spent.
pub data RegionCase : Type 0 where
  each_reaches : (loads : LoadPair) → List (ℤ × ℤ) → RegionCase
  one_falls : (loads : LoadPair) → List (ℤ × ℤ) → (k : ℕ) → MotionValue → RegionCase
  is_unpaired : (number : ℕ) → RegionCase
  is_long : (loads : LoadPair) → RegionCase
  is_faulty : (loads : LoadPair) → (number : ℕ) → RegionCase
  is_wide : (loads : LoadPair) → List (ℤ × ℤ) → (k : ℕ) → RegionPlace → RegionCase
  is_spent : (loads : LoadPair) → List (ℤ × ℤ) → (k : ℕ) → RegionCase

abbrev pub region_status : RegionCase → ℕ
region_status (each_reaches loads ds) = 0
region_status (one_falls loads ds k y) = 1
region_status (is_unpaired number) = 15
region_status (is_long loads) = 4
region_status (is_faulty loads number) = 14
region_status (is_wide loads ds k p) = 7
region_status (is_spent loads ds k) = 8

module _ (i j : ℕ) (text : List ℕ) (budget : ℕ) where
  -- The numbers name these loads, from 0.
  abbrev pub AreNamed : Surveyed → LoadPair → Type 0
  AreNamed v loads = pair_of v.structure i j ≡ Ok loads

  -- They do, and a text that isn't too long gives these directions.
  abbrev pub TellsDirections : Surveyed → LoadPair → List (ℤ × ℤ) → Type 0
  TellsDirections v loads ds = AreNamed v loads × IsShort text × (directions_of text ≡ Ok ds)

  -- When each comes.
  abbrev pub RegionComes : Surveyed → RegionCase → Type 0
  RegionComes v (each_reaches loads ds) =
      TellsDirections v loads ds × ReachBefore v loads.i loads.j budget ds (length ds)
  RegionComes v (one_falls loads ds k y) =
      TellsDirections v loads ds × IsFirstDirection v loads.i loads.j budget ds k (falls y)
  RegionComes v (is_unpaired number) = pair_of v.structure i j ≡ Err number
  RegionComes v (is_long loads) = AreNamed v loads × (greatest_file < length text)
  RegionComes v (is_faulty loads number) = AreNamed v loads × IsShort text × (directions_of text ≡ Err number)
  RegionComes v (is_wide loads ds k p) =
      TellsDirections v loads ds × IsFirstDirection v loads.i loads.j budget ds k (passes p)
  RegionComes v (is_spent loads ds k) =
      TellsDirections v loads ds × IsFirstDirection v loads.i loads.j budget ds k spends

  -- What is due, and what it means: a reach for each direction, whose points are carried and whose half-planes hold all
  -- that is carried (`ArePoints`, its fields `tell` and `mixtures`); a motion, and the dead loads aren't carried at any
  -- scale; or a fault's line.
  abbrev pub IsRegionDue : Surveyed → RegionCase → Result Due Fault → Type 0
  IsRegionDue v (each_reaches loads ds) e =
      (rs : List ReachValue) × ArePoints v loads.i loads.j ds rs
      × (e ≡ Ok (region_due v loads.i loads.j ds (points rs)))
  IsRegionDue v (one_falls loads ds k y) e =
      DeadLoadsFall v (collapses y) × (e ≡ Ok (region_due v loads.i loads.j ds (collapse y)))
  IsRegionDue v (is_unpaired number) e = e ≡ Err (no_pair number)
  IsRegionDue v (is_long loads) e = e ≡ Err (long inputs.Directions)
  IsRegionDue v (is_faulty loads number) e = e ≡ Err (directions_line number)
  IsRegionDue v (is_wide loads ds k p) e = e ≡ Err (wide_toward (k + 1) v.structure p)
  IsRegionDue v (is_spent loads ds k) e = e ≡ Err (over_budget budget)

  abbrev pub region_promise : Promise Surveyed
  region_promise = record {
    Case = RegionCase;
    IsStatus = λ x n. n ≡ region_status x;
    Comes = RegionComes;
    IsDue = IsRegionDue;
  }
