-- Directions one after the other.
use Rattle.std.proofs.Common.{◌≡◌, refl, sym, ap, ◌∙◌, subst, ℕ, suc, ◌+◌, ◌<◌, ◌≤◌, List, [], ◌∷◌, ◌++◌, length}
use Rattle.std.proofs.Common.{get_or, map, drop, Result, Ok, Err, append_assoc, arith, take, Option, Some, None}
use Rattle.std.proofs.Common.{add-one, append-nil, IfOk}
use Rattle.std.specs.List.{AllByRecursion}
use Rattle.std.proofs.Math.ListN.{drop_of_length-le}
use Rattle.std.proofs.Math.Seq.{drop-cons}
use Rattle.std.proofs.lemmas.List.{map-append, take_more, take_all}
use lib.IntN.{ℤ}
use Rattle.stack_equilibrium.proofs.Common.{IsProper, Surveyed, collapses, greatest, motion_view, scene_of, stands}
use Rattle.stack_equilibrium.proofs.Common.{unbounded}
use Rattle.stack_equilibrium.specs.declared.types.PowerWide.{PowerWide}
use Rattle.stack_pairs.specs.Directed.{ArePair, directed_survey}
use Rattle.stack_pairs.specs.Reaches.{ReachValue, collapse, points, IsReach, RegionTells, PointValue}
use Rattle.stack_pairs.specs.Reaches.{direction_of_reach, reach_of}
use Rattle.stack_pairs.specs.Laws.{RegionsTell}
use Rattle.stack_certificate.specs.declared.types.Motion.{Motion}
use Rattle.stack_directions.specs.declared.directing.Towards.{Towards}
use Rattle.stack_yield.specs.declared.types.Region.{Region}
use Rattle.stack_yield.specs.declared.types.Region.TheVariants as regions
use Rattle.stack_yield.specs.declared.types.RegionError.{RegionError}
use Rattle.stack_yield.specs.declared.types.RegionError.TheVariants as errors
use Rattle.stack_equilibrium.specs.declared.types.Question.TheVariants.{Live}
use Rattle.stack_judge.specs.Judged.{IsJudged}
use Rattle.stack_judge.specs.Judgement.{Judgement, certified, too_wide, spent, unjudged, judgement}
use Rattle.stack_yield.specs.Outcomes.{unless_wide, outcome_of, Outcome, reaches, falls, passes, spends}
use Rattle.stack_yield.specs.Outcomes.{direction_outcome, Outcomes, answered, passes_at, spends_at, no_outcomes}
use Rattle.stack_yield.specs.Outcomes.{with_reach, and_then, outcomes_from, outcomes}
use Rattle.stack_yield.specs.declared.types.Reach.{Reach}
use Rattle.stack_yield.specs.declared.judging.DirectionAnswer.{DirectionAnswer}
use Rattle.stack_yield.specs.declared.judging.DirectionAnswer.TheVariants.{Reaches, Falls}
use Rattle.stack_yield.specs.declared.judging.DirectionStop.{DirectionStop}
use Rattle.stack_yield.specs.declared.judging.DirectionStop.TheVariants as stops
use Rattle.stack_yield.specs.Kept.{reach_view, region_view}
use Rattle.stack_yield.specs.Regions.{outcome_of_answer, IsOutcome, AnswerHolds, Regions, RefusesFirstDirection}
use Rattle.stack_yield.specs.Regions.{region_refusal, towards_of}
use Rattle.stack_yield.specs.ByDirections.{AreByDirections}
use Rattle.stack_yield.specs.JudgedReaches.{ReachIsJudged, RegionIsJudged}
use Rattle.stack_yield.specs.RegionText.{CanPrintRegion}
use Rattle.stack_yield.proofs.FirstDirection.{by_directions}

-- reaches in front of what comes
abbrev pub onto : List ReachValue → Outcomes → Outcomes
onto rs (answered (points qs)) = answered (points (rs ++ qs))
onto rs (answered (collapse y)) = answered (collapse y)
onto rs (passes_at k p) = passes_at k p
onto rs (spends_at k) = spends_at k
onto rs no_outcomes = no_outcomes

onto_more : (rs : List ReachValue) (r : ReachValue) (o : Outcomes) → onto rs (with_reach r o) ≡ onto (rs ++ r ∷ []) o
onto_more rs r (answered (points qs)) = ap (λ xs. answered (points xs)) (sym (append_assoc rs (r ∷ []) qs))
onto_more rs r (answered (collapse y)) = refl
onto_more rs r (passes_at k p) = refl
onto_more rs r (spends_at k) = refl
onto_more rs r no_outcomes = refl

module _ (s : Surveyed) (i j budget : ℕ) where
  -- how far the directions ds have come: the reaches rs of the first k
  pub record IsGathered (ds : List (ℤ × ℤ)) (rs : List ReachValue) (k : ℕ) : Type 0 where
    pub outcomes : outcomes s i j budget ds ≡ onto rs (outcomes_from s i j budget k (drop k ds))
    pub each : AllByRecursion (IsReach s i j) rs
    pub judged : AllByRecursion (ReachIsJudged s i j) rs
    pub directions : map direction_of_reach rs ≡ take k ds
    pub counted : length rs ≡ k
    pub within : k ≤ length ds

  -- what comes of direction number k, behind the reaches so far
  next : (ds : List (ℤ × ℤ)) (rs : List ReachValue) (k : ℕ) (d : ℤ × ℤ) (o : Outcome) → k < length ds →
      IsGathered ds rs k → direction_outcome s i j budget (get_or ds k d) ≡ o →
      outcomes s i j budget ds ≡ onto rs (and_then k o (outcomes_from s i j budget (suc k) (drop (suc k) ds)))
  next ds rs k d o lt g e = g.outcomes ∙ ap (λ xs. onto rs (outcomes_from s i j budget k xs)) (drop-cons ds k d lt)
      ∙ ap (λ x. onto rs (and_then k x (outcomes_from s i j budget (suc k) (drop (suc k) ds)))) e

  all_more : (P : ReachValue → Type 0) (rs : List ReachValue) (r : ReachValue) → AllByRecursion P rs → P r →
      AllByRecursion P (rs ++ r ∷ [])
  all_more P [] r h g = (g, tt)
  all_more P (x ∷ rs) r h g = (h.0, all_more P rs r h.1 g)

  length_more : (rs : List ReachValue) (r : ReachValue) → length (rs ++ r ∷ []) ≡ suc (length rs)
  length_more [] r = refl
  length_more (x ∷ rs) r = ap suc (length_more rs r)

  one_direction : (ds : List (ℤ × ℤ)) (rs : List ReachValue) (r : ReachValue) (k : ℕ) (d : ℤ × ℤ) → k < length ds →
      map direction_of_reach rs ≡ take k ds → direction_of_reach r ≡ get_or ds k d →
      map direction_of_reach (rs ++ r ∷ []) ≡ take (suc k) ds
  one_direction ds rs r k d lt so_far is = map-append direction_of_reach rs (r ∷ [])
      ∙ (λ t. so_far t ++ is t ∷ []) ∙ sym (take_more ds k d lt) ∙ ap (λ n. take n ds) (add-one k)

  -- a reach is one of its direction
  unless_reaches : (a b : Result ℤ PowerWide) (p : Option PointValue) (v w : ReachValue) →
      unless_wide a b p v ≡ reaches w → v ≡ w
  unless_reaches (Ok a) (Ok b) (Some p) v w h = cc
  unless_reaches (Ok a) (Ok b) None v w h = absurd (cc)
  unless_reaches (Ok a) (Err e) p v w h = absurd (cc)
  unless_reaches (Err e) b p v w h = absurd (cc)

  outcome_direction : (m n : ℤ) (x : Judgement) (v : ReachValue) → outcome_of s i j m n x ≡ reaches v →
      direction_of_reach v ≡ (m, n)
  outcome_direction m n (certified (greatest f y)) v h = ap direction_of_reach (sym (unless_reaches _ _ _
      (reach_of s i j m n (greatest f y)) v h))
  outcome_direction m n (certified (unbounded f r)) v h =
      let same : reach_of s i j m n (unbounded f r) ≡ v = cc in ap direction_of_reach (sym same)
  outcome_direction m n (certified (stands f)) v h = absurd (cc)
  outcome_direction m n (certified (collapses y)) v h = absurd (cc)
  outcome_direction m n (too_wide p) v h = absurd (cc)
  outcome_direction m n spent v h = absurd (cc)
  outcome_direction m n unjudged v h = absurd (cc)

  pub one_more : (ds : List (ℤ × ℤ)) (rs more : List Reach) (k : ℕ) (d : ℤ × ℤ) (r : Reach) → k < length ds →
      IsGathered ds (map reach_view rs) k → direction_outcome s i j budget (get_or ds k d) ≡ reaches (reach_view r) →
      IsReach s i j (reach_view r) × ReachIsJudged s i j (reach_view r) → more ≡ rs ++ r ∷ [] →
      IsGathered ds (map reach_view more) (k + 1)
  one_more ds rs more k d r lt g e h is =
      subst (λ xs. IsGathered ds xs (k + 1)) (sym (ap (map reach_view) is ∙ map-append reach_view rs (r ∷ [])))
      (subst (IsGathered ds (map reach_view rs ++ reach_view r ∷ [])) (sym (add-one k)) (record {
        outcomes = next ds (map reach_view rs) k d (reaches (reach_view r)) lt g e
            ∙ onto_more (map reach_view rs) (reach_view r) (outcomes_from s i j budget (suc k) (drop (suc k) ds));
        each = all_more (IsReach s i j) (map reach_view rs) (reach_view r) g.each h.0;
        judged = all_more (ReachIsJudged s i j) (map reach_view rs) (reach_view r) g.judged h.1;
        directions = one_direction ds (map reach_view rs) (reach_view r) k d lt g.directions
            (outcome_direction (get_or ds k d).0 (get_or ds k d).1 (judgement Live
            (directed_survey s i j (get_or ds k d).0 (get_or ds k d).1) budget) (reach_view r) e);
        counted = length_more (map reach_view rs) (reach_view r) ∙ ap suc g.counted;
        within = omega (arith, lt);
      }))

  -- what a direction's call told, by the list's item
  pub outcome_told : (d : ℤ × ℤ) (t : Towards) (r : Result DirectionAnswer DirectionStop) → t ≡ towards_of i j d →
      IsOutcome r (direction_outcome s t.i t.j budget (t.m, t.n)) → IsOutcome r (direction_outcome s i j budget d)
  outcome_told d t r e h = subst (λ (x : Towards). IsOutcome r (direction_outcome s x.i x.j budget (x.m, x.n))) e h

  pub holds_told : (d : ℤ × ℤ) (t : Towards) (r : Result DirectionAnswer DirectionStop) → t ≡ towards_of i j d →
      IfOk r (λ x. AnswerHolds s t.i t.j x) → IfOk r (λ x. AnswerHolds s i j x)
  holds_told d t r e h = subst (λ (x : Towards). IfOk r (λ y. AnswerHolds s x.i x.j y)) e h

  ok_outcome : (o : Outcome) (r : Result DirectionAnswer DirectionStop) (t : DirectionAnswer) → IsOutcome r o → r
      ≡ Ok t → o ≡ outcome_of_answer t
  ok_outcome o r t h e = subst (λ x. IsOutcome x o) e h

  pub reached : (o : Outcome) (r : Result DirectionAnswer DirectionStop) (t : DirectionAnswer) (x : Reach) →
      IsOutcome r o → r ≡ Ok t → t ≡ Reaches x →
      o ≡ reaches (reach_view x)
  reached o r t x h e is = ok_outcome o r t h e ∙ ap outcome_of_answer is

  pub reach_holds : (r : Result DirectionAnswer DirectionStop) (t : DirectionAnswer) (x : Reach) →
      IfOk r (λ y. AnswerHolds s i j y) → r ≡ Ok t →
      t ≡ Reaches x → IsReach s i j (reach_view x) × ReachIsJudged s i j (reach_view x)
  reach_holds r t x h e is = subst (AnswerHolds s i j) is (subst (λ y. IfOk y (λ z. AnswerHolds s i j z)) e h)

  pub fall_holds : (r : Result DirectionAnswer DirectionStop) (t : DirectionAnswer) (y : Motion) →
      IfOk r (λ x. AnswerHolds s i j x) → r ≡ Ok t →
      t ≡ Falls y → IsJudged Live s (collapses (motion_view y))
  fall_holds r t y h e is = subst (AnswerHolds s i j) is (subst (λ x. IfOk x (λ z. AnswerHolds s i j z)) e h)

  pub fallen : (ds : List (ℤ × ℤ)) (rs : List ReachValue) (k : ℕ) (d : ℤ × ℤ) (r : Result DirectionAnswer DirectionStop)
      (t : DirectionAnswer)
      (y : Motion) → k < length ds → IsGathered ds rs k →
      IsOutcome r (direction_outcome s i j budget (get_or ds k d)) → r ≡ Ok t → t ≡ Falls y →
      outcomes s i j budget ds ≡ answered (collapse (motion_view y))
  fallen ds rs k d r t y lt g h e is = next ds rs k d (falls (motion_view y)) lt g
      (ok_outcome (direction_outcome s i j budget (get_or ds k d)) r t h e ∙ ap outcome_of_answer is)

  pub stopped : (ds : List (ℤ × ℤ)) (rs : List ReachValue) (k : ℕ) (d : ℤ × ℤ)
      (r : Result DirectionAnswer DirectionStop) (x : DirectionStop)
      (e : RegionError) → k < length ds → IsGathered ds rs k →
      IsOutcome r (direction_outcome s i j budget (get_or ds k d)) → r ≡ Err x → e ≡ region_refusal x k →
      Regions (Err e) s i j budget ds
  stopped ds rs k d r x e lt g h was is = subst (λ t. Regions (Err t) s i j budget ds) (sym is)
      (go x (subst (λ t. IsOutcome t (direction_outcome s i j budget (get_or ds k d))) was h))
    where
      go : (x : DirectionStop) → IsOutcome (Err x) (direction_outcome s i j budget (get_or ds k d)) →
          Regions (Err (region_refusal x k)) s i j budget ds
      go (stops.TooWide p) o = next ds rs k d (passes p) lt g o
      go stops.Spent o = next ds rs k d spends lt g o
      go stops.Memory o = tt

  pub all_told : RegionsTell → IsProper (scene_of s) → ArePair s.structure i j → (ds : List (ℤ × ℤ))
      (rs : List ReachValue) (k : ℕ) → 1 ≤ length ds → length ds ≤ k → IsGathered ds rs k →
      RegionTells s i j ds (points rs)
  all_told law proper pair ds rs k some ended g =
      law s i j ds rs proper pair (omega (arith, some, ended, g.counted)) (g.directions ∙ take_all k ds ended) g.each

  -- each direction has a reach, and the region is of these
  pub all_gathered : (ds : List (ℤ × ℤ)) (rs : List ReachValue) (k : ℕ) → length ds ≤ k → IsGathered ds rs k →
      outcomes s i j budget ds ≡ answered (points rs)
  all_gathered ds rs k ended g = g.outcomes
      ∙ ap (λ xs. onto rs (outcomes_from s i j budget k xs)) (drop_of_length-le ds ended)
      ∙ ap (λ xs. answered (points xs)) (append-nil rs)

  -- a direction that is refused is the first that has no reach
  refuses_first : (ds : List (ℤ × ℤ)) (e : RegionError) → Regions (Err e) s i j budget ds →
      RefusesFirstDirection (Err e) s i j budget ds
  refuses_first ds (errors.TooWide k p) g = subst (AreByDirections s i j budget ds) g (by_directions s i j budget ds)
  refuses_first ds (errors.Spent k) g = subst (AreByDirections s i j budget ds) g (by_directions s i j budget ds)
  refuses_first ds errors.Memory g = tt

  pub refuses : (ds : List (ℤ × ℤ)) (r : Result Region RegionError) → Regions r s i j budget ds →
      RefusesFirstDirection r s i j budget ds
  refuses ds (Ok r) g = tt
  refuses ds (Err e) g = refuses_first ds e g

  -- what is judged can be printed
  pub printable : (r : Result Region RegionError) → IfOk r (λ x. RegionIsJudged s i j (region_view x)) →
      IfOk r (λ x. CanPrintRegion (region_view x))
  printable (Ok (regions.Collapses y)) g = g.fits
  printable (Ok (regions.Points rs)) g = tt
  printable (Err e) g = tt
