-- What the judgements of both sides give together.
use Rattle.std.proofs.Common.{inl, inr, arith, Ok, Err}
use mathlib.Core.Path.{◌≡◌, sym, ap, ◌∙◌, subst}
use Prim.Native.Nat.{ℕ, ◌<◌}
use lib.IntN.{ℤ, pos, neg_ℤ}
use Rattle.std.proofs.lemmas.Int.{ints}
use Rattle.std.proofs.lemmas.List.{length-map, get_or-map}
use Rattle.stack_equilibrium.proofs.Common.{Carries, HasLive, Load, Structure, Surveyed, scene_of}
use Rattle.stack_certificate.specs.declared.types.Motion.{Motion}
use Rattle.stack_extract.specs.EndLaws.{TellsOfDeadLoads}
use Rattle.stack_range.specs.declared.types.Side.TheVariants.{Greatest, Least}
use Rattle.stack_range.specs.declared.types.End.{End}
use Rattle.stack_range.specs.declared.types.RangeError.{RangeError}
use Rattle.stack_range.specs.declared.types.RangeError.TheVariants.{TooWide, Spent, NoLive, Memory}
use Rattle.stack_range.specs.declared.ranging.OneSide.{OneSide}
use Rattle.stack_range.specs.declared.ranging.OneSide.TheVariants.{Ends, Falls}
use Rattle.stack_range.specs.Reversed.{reversed_load, reversed_sway, reversed_structure, reversed_survey}
use Rattle.stack_range.specs.CarriedFactors.{EndValue, at, unlimited, range_end_certificate}
use Rattle.stack_range.specs.Ranged.{end_view, IsSideJudged, JudgesSide, AnswersBySides, IsRangeBetween}
use Rattle.stack_range.specs.Laws.{ReversalTurnsFactors, RangesAreExact}

-- the dead loads stand where an end is certified
stands : (v : Surveyed) (e : EndValue) → TellsOfDeadLoads v (range_end_certificate e) →
    Carries (scene_of v) (pos 0) (pos 1)
stands v (at f y) h = h
stands v (unlimited base ray) h = h

-- where an end is certified, the dead loads stand in the reversed structure too, which doesn't fall
pub never_falls : ReversalTurnsFactors → (v w : Surveyed) (h k : OneSide) (e : End) (y : Motion) →
    h ≡ Ends e → k ≡ Falls y → w ≡ reversed_survey v → IsSideJudged v h → IsSideJudged w k → ⊥
never_falls turned v w h k e y is_end falls other high low =
    let one = (subst (IsSideJudged v) is_end high).judged.dead_loads in
    let two = (subst (λ u. IsSideJudged u (Falls y)) other (subst (IsSideJudged w) falls low)).judged.dead_loads in
    two ((turned v (pos 0) (pos 1)).0 (stands v (end_view e) one))

-- both ends make a range, between which is exactly what is carried
pub both_ends : RangesAreExact → (v w : Surveyed) (h k : OneSide) (high low : End) → h ≡ Ends high → k ≡ Ends low →
    w ≡ reversed_survey v → IsSideJudged v h → IsSideJudged w k → IsRangeBetween v (end_view low) (end_view high)
both_ends exact v w h k high low is_high is_low other greatest least =
    let one = subst (IsSideJudged v) is_high greatest in
    let two = subst (λ u. IsSideJudged u (Ends low)) other (subst (IsSideJudged w) is_low least) in
    record {
      greatest_holds = one.judged;
      least_holds = two.judged;
      exact = exact v (end_view low) (end_view high) one.proper one.judged.holds two.judged.holds;
    }

-- a live load that is listed is listed reversed, and a sway that isn't (0, 0) isn't (0, 0) reversed
live_too : (s : Structure) → HasLive s → HasLive (reversed_structure s)
live_too s (inl h) = inl (
  h.0,
  (
    subst (λ n. h.0 < n) (sym (length-map s.loads reversed_load)) h.1.0,
    ap (λ (l : Load). l.live) (get_or-map reversed_load s.loads h.0 _ _ h.1.0) ∙ h.1.1,
  ),
)
live_too s (inr sways) = inr (λ e. sways (twice s.sway ∙ ap reversed_sway e))
  where
    twice_one : (a : ℤ) → a ≡ neg_ℤ (neg_ℤ a)
    twice_one a = omega (arith, ints)

    twice : (sway : ℤ × ℤ) → sway ≡ reversed_sway (reversed_sway sway)
    twice sway = λ i. (twice_one sway.0 i, twice_one sway.1 i)

-- the least side is refused
pub least_refused : (v w : Surveyed) (budget : ℕ) (h : OneSide) (high : End) (e : RangeError) → h ≡ Ends high →
    w ≡ reversed_survey v → JudgesSide (Ok h) Greatest v budget → JudgesSide (Err e) Least w budget →
    AnswersBySides (Err e) v budget
least_refused v w budget h high e is_high other greatest least = go e
    (subst (λ u. JudgesSide (Err e) Least u budget) other least)
  where
    one : JudgesSide (Ok (Ends high)) Greatest v budget
    one = subst (λ k. JudgesSide (Ok k) Greatest v budget) is_high greatest

    go : (e : RangeError) → JudgesSide (Err e) Least (reversed_survey v) budget → AnswersBySides (Err e) v budget
    go (TooWide side p) r = subst (λ t. AnswersBySides (Err (TooWide t p)) v budget) (sym r.0)
        (one.0, (end_view high, one.1), r.2)
    go (Spent side) r = subst (λ t. AnswersBySides (Err (Spent t)) v budget) (sym r.0)
        (one.0, (end_view high, one.1), r.2)
    go NoLive r = λ h. r (live_too v.structure h)
    go Memory r = tt
