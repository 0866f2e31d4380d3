-- The work on a region comes down to one step.
use Rattle.std.proofs.Common.{◌≡◌, sym, subst, ap, ◌∙◌, ℕ, suc, ◌+◌, ◌<◌, ℤ, List, [], ◌∷◌, length, Result, Ok, Err}
use Rattle.std.proofs.Common.{inl, arith}
use Rattle.stack_contact.specs.Surveyed.{Surveyed}
use Rattle.stack_pairs.specs.Reaches.{ReachValue, collapse, points}
use Rattle.stack_yield.specs.declared.types.RegionPlace.{RegionPlace}
use Rattle.stack_directions.specs.declared.naming.LoadPair.{LoadPair}
use Rattle.stack_directions.specs.declared.errors.DirectionsError.{DirectionsError}
use Rattle.stack_directions.specs.declared.errors.DirectionsError.TheVariants as reading
use Rattle.stack_directions.specs.Directions.{directions_of}
use Rattle.stack_directions.specs.Reading.{GivesDirections}
use Rattle.stack_directions.specs.Pairing.{pair_of}
use Rattle.stack_yield.specs.Outcomes.{Outcome, reaches, falls, passes, spends, no_outcome, Outcomes, answered}
use Rattle.stack_yield.specs.Outcomes.{passes_at, spends_at, no_outcomes, with_reach, and_then, direction_outcome}
use Rattle.stack_yield.specs.Outcomes.{outcomes_from, outcomes}
use Rattle.stack_lines.specs.declared.refusal.Refusal.{Refusal as CodeRefusal}
use Rattle.stack_lines.specs.Refusals.{refusal_view, faulty}
use Rattle.stack_lines.specs.Errors.{from_directions}
use Rattle.stack_work.specs.Answers.{Due}
use Rattle.stack_work.specs.Work.{Work, ◌>>=◌, Holds, Ends}
use Rattle.stack_work.specs.Yielding.{loads_step, directions_step, region_step, directions_work, directed_file}
use Rattle.stack_work.specs.Yielding.{paired_file}
use Rattle.stack_work.proofs.OneStep.{ends_refusing}
use Rattle.stack_work.proofs.Ways.{wanting}

-- the number of the direction that passes
abbrev passing : Outcomes → ℕ
passing (answered r) = 0
passing (passes_at k p) = k
passing (spends_at k) = 0
passing no_outcomes = 0

-- with a reach before them, directions pass where they do alone
passes_behind : (r : ReachValue) (x : Outcomes) (n : ℕ) (p : RegionPlace) → with_reach r x ≡ passes_at n p
    → x ≡ passes_at n p
passes_behind r (answered (points rs)) n p is = absurd cc
passes_behind r (answered (collapse y)) n p is = absurd cc
passes_behind r (passes_at k q) n p is = is
passes_behind r (spends_at k) n p is = absurd cc
passes_behind r no_outcomes n p is = absurd cc

-- the first direction passes, or one behind it
next_passes : (k m : ℕ) (o : Outcome) (x : Outcomes) (n : ℕ) (p : RegionPlace) → (x ≡ passes_at n p → n < suc k + m)
    → and_then k o x ≡ passes_at n p → n < k + suc m
next_passes k m (reaches r) x n p more is = let h = more (passes_behind r x n p is) in omega (arith, h)
next_passes k m (falls y) x n p more is = absurd cc
next_passes k m (passes q) x n p more is = let h = ap passing is in omega (arith, h)
next_passes k m spends x n p more is = absurd cc
next_passes k m no_outcome x n p more is = absurd cc

-- a direction that passes is one of those that are numbered from k on
passes_among : (v : Surveyed) (i j budget k : ℕ) (ds : List (ℤ × ℤ)) (n : ℕ) (p : RegionPlace)
    → outcomes_from v i j budget k ds ≡ passes_at n p → n < k + length ds
passes_among v i j budget k [] n p is = absurd cc
passes_among v i j budget k (d ∷ ds) n p is = next_passes k (length ds) (direction_outcome v i j budget d)
    (outcomes_from v i j budget (suc k) ds) n p (passes_among v i j budget (suc k) ds n p) is

-- so there are more directions than its number
pub is_direction : (v : Surveyed) (i j budget : ℕ) (ds : List (ℤ × ℤ)) (n : ℕ) (p : RegionPlace)
    → outcomes v i j budget ds ≡ passes_at n p → n < length ds
is_direction v i j budget ds n p is = let h = passes_among v i j budget 0 ds n p is in omega (arith, h)

module _ (v : Surveyed) (loads : LoadPair) (text : List ℕ) (budget : ℕ) where
  abbrev pub after_text : Result (List (ℤ × ℤ)) ℕ → Work Due
  after_text r = directions_step r >>= λ ds. region_step budget v loads.i loads.j ds
      (outcomes v loads.i loads.j budget ds)

  -- the step of what comes of the directions, where the text tells these
  pub directions_are : (ds : List (ℤ × ℤ)) → directions_of text ≡ Ok ds → (o : Outcomes)
      → outcomes v loads.i loads.j budget ds ≡ o
      → directions_work budget v loads text ≡ region_step budget v loads.i loads.j ds o
  directions_are ds is o comes = ap after_text is ∙ ap (region_step budget v loads.i loads.j ds) comes

  -- a text that is read as none, or want of memory
  pub directions_refused : (e : DirectionsError) (r : CodeRefusal) (holds : Holds) → GivesDirections (Err e) text
      → refusal_view r ≡ faulty (from_directions e)
      → Ends holds (directions_work budget v loads text) [] (Err (refusal_view r))
  directions_refused (reading.Line number) r holds g h = ends_refusing holds r (ap after_text g) (inl h)
  directions_refused reading.Memory r holds g h =
      subst (λ q. Ends holds (directions_work budget v loads text) [] (Err q)) (sym h)
      (wanting holds (directions_work budget v loads text))

-- the step of the loads that the numbers name
pub loads_are : (v : Surveyed) (i j : ℕ) (name : List ℕ) (budget : ℕ) (p : Result LoadPair ℕ)
    → pair_of v.structure i j ≡ p
    → paired_file i j name budget v ≡ loads_step p >>= directed_file name budget v
unfolding paired_file
loads_are v i j name budget p is = ap (λ r. loads_step r >>= directed_file name budget v) is
