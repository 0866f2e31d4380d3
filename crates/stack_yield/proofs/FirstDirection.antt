-- What comes of directions is what comes of the first that has no reach.
use Rattle.std.proofs.Common.{◌≡◌, refl, subst, ap, ◌∙◌, ℕ, zero, suc, ◌+◌, List, [], ◌∷◌, length}
use Rattle.std.proofs.Common.{Option, Some, None, Result, Ok, Err, arith, inl, inr}
use Rattle.std.specs.Bool.{⊤}
use lib.IntN.{ℤ, pos}
use Rattle.stack_equilibrium.proofs.Common.{ForcesValue, MotionValue, Surveyed, collapses, greatest, stands, unbounded}
use Rattle.stack_equilibrium.proofs.Common.{written_power}
use Rattle.stack_equilibrium.specs.declared.types.PowerWide.{PowerWide}
use Rattle.stack_equilibrium.specs.declared.types.Question.TheVariants.{Live}
use Rattle.stack_judge.specs.Judgement.{Judgement, certified, too_wide, spent, unjudged}
use Rattle.stack_judge.proofs.EachJudged.{each_end_is_judged}
use Rattle.stack_judge.proofs.JudgedValues.{of_the_question}
use Rattle.stack_pairs.specs.Directed.{directed_survey}
use Rattle.stack_pairs.specs.Reaches.{PointValue, ReachValue, collapse, points, reach_of}
use Rattle.stack_yield.specs.declared.types.RegionPlace.TheVariants as places
use Rattle.stack_directions.specs.Coordinates.{point_made}
use Rattle.stack_yield.specs.Outcomes.{Outcome, reaches, falls, passes, spends, no_outcome, unless_wide}
use Rattle.stack_yield.specs.Outcomes.{outcome_of, direction_outcome, with_reach, and_then, outcomes_from, outcomes}
use Rattle.stack_yield.specs.Outcomes.{Outcomes, answered, passes_at, spends_at, no_outcomes}
use Rattle.stack_yield.specs.ByDirections.{judgement_towards, HasGreatest, HasReach, IsOutcomeOf}
use Rattle.stack_yield.specs.ByDirections.{ReachBefore, IsFirstDirection, AreByDirections, OutcomesAreByDirections}
use Rattle.stack_yield.specs.ByDirections.{FirstDirectionsDecide, DirectionsAreDecided}

module _ (s : Surveyed) (i j budget : ℕ) where
  -- what comes of a greatest factor, by its powers and its point
  of_greatest : (d : ℤ × ℤ) (f : ForcesValue) (y : MotionValue) → HasGreatest s i j budget d f y
      → (a b : Result ℤ PowerWide) (p : Option PointValue)
      → written_power Live (directed_survey s i j (pos 1) (pos 0)) y ≡ a
      → written_power Live (directed_survey s i j (pos 0) (pos 1)) y ≡ b → point_made d.0 d.1 f ≡ p
      → (r : ReachValue) → IsOutcomeOf s i j budget d (unless_wide a b p r)
  of_greatest d f y g (Err e) b p ea eb ep r = (f, y, g, e, ea)
  of_greatest d f y g (Ok x) (Err e) p ea eb ep r = (f, y, g, (x, ea), e, eb)
  of_greatest d f y g (Ok x) (Ok z) None ea eb ep r = (f, y, g, (x, ea), (z, eb), ep)
  of_greatest d f y g (Ok x) (Ok z) (Some p) ea eb ep r = inr (f, y, g, (x, ea), (z, eb), p, ep)

  of_judgement : (d : ℤ × ℤ) (x : Judgement) → judgement_towards s i j budget d ≡ x
      → IsOutcomeOf s i j budget d (outcome_of s i j d.0 d.1 x)
  of_judgement d (certified (greatest f y)) e = of_greatest d f y e
      (written_power Live (directed_survey s i j (pos 1) (pos 0)) y)
      (written_power Live (directed_survey s i j (pos 0) (pos 1)) y) (point_made d.0 d.1 f) refl refl refl
      (reach_of s i j d.0 d.1 (greatest f y))
  of_judgement d (certified (unbounded base ray)) e = inl (base, ray, e)
  of_judgement d (certified (collapses y)) e = e
  of_judgement d (certified (stands f)) e = of_the_question Live (directed_survey s i j d.0 d.1) budget (stands f) e
  of_judgement d (too_wide p) e = e
  of_judgement d spent e = e
  of_judgement d unjudged e = each_end_is_judged Live (directed_survey s i j d.0 d.1) budget e

  -- what comes of a direction
  of_direction : (d : ℤ × ℤ) → IsOutcomeOf s i j budget d (direction_outcome s i j budget d)
  of_direction d = of_judgement d (judgement_towards s i j budget d) refl

  -- a direction with a reach has one as its outcome
  abbrev Reaching : ℤ × ℤ → Type 0
  Reaching d = (r : ReachValue) × (direction_outcome s i j budget d ≡ reaches r)

  reaching : (d : ℤ × ℤ) → HasReach s i j budget d → Reaching d
  reaching d (inl h) = (reach_of s i j d.0 d.1 (unbounded h.0 h.1), ap (outcome_of s i j d.0 d.1) h.2)
  reaching d (inr h) = (
    reach_of s i j d.0 d.1 (greatest h.0 h.1),
    ap (outcome_of s i j d.0 d.1) h.2
        ∙ (λ t. unless_wide (h.3.1 t) (h.4.1 t) (h.6 t) (reach_of s i j d.0 d.1 (greatest h.0 h.1))),
  )

  -- each outcome that isn't a reach is told by its judgement
  abbrev IsStop : Outcome → Type 0
  IsStop (reaches r) = ⊥
  IsStop (falls y) = ⊤
  IsStop (passes p) = ⊤
  IsStop spends = ⊤
  IsStop no_outcome = ⊥

  stopping : (d : ℤ × ℤ) (o : Outcome) → IsStop o → IsOutcomeOf s i j budget d o → direction_outcome s i j budget d ≡ o
  stopping d (reaches r) k h = absurd k
  stopping d (falls y) k h = ap (outcome_of s i j d.0 d.1) h
  stopping d (passes (places.Judge p)) k h = ap (outcome_of s i j d.0 d.1) h
  stopping d (passes places.First) k h = ap (outcome_of s i j d.0 d.1) h.2
      ∙ (λ t. unless_wide (h.4 t) (written_power Live (directed_survey s i j (pos 0) (pos 1)) h.1)
      (point_made d.0 d.1 h.0) (reach_of s i j d.0 d.1 (greatest h.0 h.1)))
  stopping d (passes places.Second) k h = ap (outcome_of s i j d.0 d.1) h.2
      ∙ (λ t. unless_wide (h.3.1 t) (h.5 t) (point_made d.0 d.1 h.0) (reach_of s i j d.0 d.1 (greatest h.0 h.1)))
  stopping d (passes places.Point) k h = ap (outcome_of s i j d.0 d.1) h.2
      ∙ (λ t. unless_wide (h.3.1 t) (h.4.1 t) (h.5 t) (reach_of s i j d.0 d.1 (greatest h.0 h.1)))
  stopping d spends k h = ap (outcome_of s i j d.0 d.1) h
  stopping d no_outcome k h = absurd k

  -- what comes of all, where direction number n comes to this
  abbrev stop_at : ℕ → Outcome → Outcomes
  stop_at n (reaches r) = no_outcomes
  stop_at n (falls y) = answered (collapse y)
  stop_at n (passes p) = passes_at n p
  stop_at n spends = spends_at n
  stop_at n no_outcome = no_outcomes

  stops_here : (n : ℕ) (o : Outcome) (more : Outcomes) → IsStop o → and_then n o more ≡ stop_at n o
  stops_here n (reaches r) more k = absurd k
  stops_here n (falls y) more k = refl
  stops_here n (passes p) more k = refl
  stops_here n spends more k = refl
  stops_here n no_outcome more k = absurd k

  stops_behind : (r : ReachValue) (n : ℕ) (o : Outcome) → with_reach r (stop_at n o) ≡ stop_at n o
  stops_behind r n (reaches x) = refl
  stops_behind r n (falls y) = refl
  stops_behind r n (passes p) = refl
  stops_behind r n spends = refl
  stops_behind r n no_outcome = refl

  -- the first that has no reach is what comes of all
  decides : (ds : List (ℤ × ℤ)) (k n m : ℕ) (o : Outcome) → IsStop o → n ≡ k + m
      → IsFirstDirection s i j budget ds m o → outcomes_from s i j budget k ds ≡ stop_at n o
  decides [] k n m o stop e f = absurd (let w = f.within in omega (arith, w))
  decides (d ∷ ds) k n zero o stop e f =
      let same : k ≡ n = omega (arith, e) in
      ap (λ x. and_then k x (outcomes_from s i j budget (suc k) ds)) (stopping d o stop f.is)
      ∙ stops_here k o (outcomes_from s i j budget (suc k) ds) stop ∙ ap (λ x. stop_at x o) same
  decides (d ∷ ds) k n (suc m) o stop e f =
      let r = reaching d (f.earlier 0 (omega arith)) in
      ap (λ x. and_then k x (outcomes_from s i j budget (suc k) ds)) r.1
      ∙ ap (with_reach r.0) (decides ds (suc k) n m o stop (omega (arith, e)) (record {
        within = let w = f.within in omega (arith, w);
        earlier = λ x l. f.earlier (suc x) (omega (arith, l));
        is = f.is;
      })) ∙ stops_behind r.0 n o

  -- each has a reach
  all_reach : (ds : List (ℤ × ℤ)) (k : ℕ) → ReachBefore s i j budget ds (length ds)
      → (rs : List ReachValue) × (outcomes_from s i j budget k ds ≡ answered (points rs))
  all_reach [] k h = ([], refl)
  all_reach (d ∷ ds) k h =
      let r = reaching d (h 0 (omega arith)) in
      let more = all_reach ds (suc k) (λ x l. h (suc x) (omega (arith, l))) in (
        r.0 ∷ more.0,
        ap (λ x. and_then k x (outcomes_from s i j budget (suc k) ds)) r.1 ∙ ap (with_reach r.0) more.1,
      )

  decide : (ds : List (ℤ × ℤ)) → FirstDirectionsDecide s i j budget ds
  decide ds = record {
    wide = λ k p f. decides ds 0 k k (passes p) tt (from_none k) f;
    over_budget = λ k f. decides ds 0 k k spends tt (from_none k) f;
    fall = λ k y f. decides ds 0 k k (falls y) tt (from_none k) f;
    reach = all_reach ds 0;
  }
    where
      from_none : (k : ℕ) → k ≡ 0 + k
      from_none k = omega arith

  -- direction number n among those that are numbered from k on
  record IsFirstFrom (ds : List (ℤ × ℤ)) (k n : ℕ) (o : Outcome) : Type 0 where
    pub place : ℕ
    pub number : n ≡ k + place
    pub first : IsFirstDirection s i j budget ds place o

  -- what comes of directions that are numbered from k on
  abbrev AreFrom : List (ℤ × ℤ) → ℕ → Outcomes → Type 0
  AreFrom ds k (answered (points rs)) = ReachBefore s i j budget ds (length ds)
  AreFrom ds k (answered (collapse y)) = (m : ℕ) × IsFirstDirection s i j budget ds m (falls y)
  AreFrom ds k (passes_at n p) = IsFirstFrom ds k n (passes p)
  AreFrom ds k (spends_at n) = IsFirstFrom ds k n spends
  AreFrom ds k no_outcomes = ⊥

  -- one more in front that has a reach
  before_too : (d : ℤ × ℤ) (ds : List (ℤ × ℤ)) (n : ℕ) → HasReach s i j budget d → ReachBefore s i j budget ds n
      → ReachBefore s i j budget (d ∷ ds) (suc n)
  before_too d ds n r h zero l = r
  before_too d ds n r h (suc k) l = h k (omega (arith, l))

  in_front : (d : ℤ × ℤ) (ds : List (ℤ × ℤ)) (m : ℕ) (o : Outcome) → HasReach s i j budget d
      → IsFirstDirection s i j budget ds m o → IsFirstDirection s i j budget (d ∷ ds) (suc m) o
  in_front d ds m o r f = record {
    within = let w = f.within in omega (arith, w);
    earlier = before_too d ds m r f.earlier;
    is = f.is;
  }

  from_in_front : (d : ℤ × ℤ) (ds : List (ℤ × ℤ)) (k n : ℕ) (o : Outcome) → HasReach s i j budget d
      → IsFirstFrom ds (suc k) n o → IsFirstFrom (d ∷ ds) k n o
  from_in_front d ds k n o r f = record {
    place = suc f.place;
    number = let e = f.number in omega (arith, e);
    first = in_front d ds f.place o r f.first;
  }

  reach_in_front : (d : ℤ × ℤ) (ds : List (ℤ × ℤ)) (k : ℕ) (r : ReachValue) (o : Outcomes) → HasReach s i j budget d
      → AreFrom ds (suc k) o → AreFrom (d ∷ ds) k (with_reach r o)
  reach_in_front d ds k r (answered (points rs)) h f = before_too d ds (length ds) h f
  reach_in_front d ds k r (answered (collapse y)) h f = (suc f.0, in_front d ds f.0 (falls y) h f.1)
  reach_in_front d ds k r (passes_at n p) h f = from_in_front d ds k n (passes p) h f
  reach_in_front d ds k r (spends_at n) h f = from_in_front d ds k n spends h f
  reach_in_front d ds k r no_outcomes h f = f

  -- the first of these comes to this
  first_of : (d : ℤ × ℤ) (ds : List (ℤ × ℤ)) (o : Outcome) → IsOutcomeOf s i j budget d o
      → IsFirstDirection s i j budget (d ∷ ds) 0 o
  first_of d ds o h = record { within = omega arith; earlier = λ k l. absurd (omega (arith, l)); is = h }

  here : (d : ℤ × ℤ) (ds : List (ℤ × ℤ)) (k : ℕ) (o : Outcome) → IsOutcomeOf s i j budget d o
      → IsFirstFrom (d ∷ ds) k k o
  here d ds k o h = record { place = 0; number = omega arith; first = first_of d ds o h }

  one_then : (d : ℤ × ℤ) (ds : List (ℤ × ℤ)) (k : ℕ) (o : Outcome) (more : Outcomes) → IsOutcomeOf s i j budget d o
      → AreFrom ds (suc k) more → AreFrom (d ∷ ds) k (and_then k o more)
  one_then d ds k (reaches r) more h f = reach_in_front d ds k r more h f
  one_then d ds k (falls y) more h f = (0, first_of d ds (falls y) h)
  one_then d ds k (passes p) more h f = here d ds k (passes p) h
  one_then d ds k spends more h f = here d ds k spends h
  one_then d ds k no_outcome more h f = h

  are_from : (ds : List (ℤ × ℤ)) (k : ℕ) → AreFrom ds k (outcomes_from s i j budget k ds)
  are_from [] k = λ n l. absurd (omega (arith, l))
  are_from (d ∷ ds) k = one_then d ds k (direction_outcome s i j budget d) (outcomes_from s i j budget (suc k) ds)
      (of_direction d) (are_from ds (suc k))

  -- counted from 0 a place is its number
  from_none : (ds : List (ℤ × ℤ)) (o : Outcomes) → AreFrom ds 0 o → AreByDirections s i j budget ds o
  from_none ds (answered (points rs)) h = h
  from_none ds (answered (collapse y)) h = h
  from_none ds (passes_at n p) h = subst (λ k. IsFirstDirection s i j budget ds k (passes p)) (at h.place n h.number)
      h.first
    where
      at : (m n : ℕ) → n ≡ 0 + m → m ≡ n
      at m n e = omega (arith, e)
  from_none ds (spends_at n) h = subst (λ k. IsFirstDirection s i j budget ds k spends) (at h.place n h.number) h.first
    where
      at : (m n : ℕ) → n ≡ 0 + m → m ≡ n
      at m n e = omega (arith, e)
  from_none ds no_outcomes h = h

  pub by_directions : (ds : List (ℤ × ℤ)) → AreByDirections s i j budget ds (outcomes s i j budget ds)
  by_directions ds = from_none ds (outcomes s i j budget ds) (are_from ds 0)

pub outcomes_are_by_directions : OutcomesAreByDirections
outcomes_are_by_directions s i j budget ds = by_directions s i j budget ds

pub directions_are_decided : DirectionsAreDecided
directions_are_decided s i j budget ds = decide s i j budget ds
