-- The promise of `yield`, by the ends of its work.
use Rattle.std.proofs.Common.{◌≡◌, refl, sym, ap, subst, ◌∙◌, ℕ, ◌+◌, ℤ, Bool, true, false, List, Option, Some}
use Rattle.std.proofs.Common.{Result, Ok, Err}
use Rattle.std.proofs.Common.{length, arith, if◌then◌else◌}
use Rattle.std.proofs.Math.Dec.{ltb}
use Rattle.std.proofs.lemmas.Bool.{ltb-false, ltb-true}
use Rattle.stack_work.proofs.Common.{Due, Fault, Form, Holds, ShelfSeen, StreamSeen, gives, greatest_file, long, memory}
use Rattle.stack_work.proofs.Common.{outcomes, over_budget, pair_of, paired_file, refuses, verdict_status, wide_toward}
use Rattle.stack_work.specs.Yielding.{directed_file, yield_work}
use Rattle.stack_contact.specs.Surveyed.{Surveyed}
use Rattle.stack_pairs.specs.Reaches.{ReachValue, points, collapse}
use Rattle.stack_directions.specs.declared.naming.LoadPair.{LoadPair}
use Rattle.stack_directions.specs.Directions.{directions_of}
use Rattle.stack_yield.specs.Outcomes.{Outcomes, answered, passes_at, spends_at, no_outcomes}
use Rattle.stack_yield.specs.ByDirections.{AreByDirections}
use Rattle.stack_yield.proofs.FirstDirection.{outcomes_are_by_directions, directions_are_decided}
use Rattle.stack_lines.specs.declared.refusal.Input.TheVariants as inputs
use Rattle.stack_lines.specs.Refusals.{no_pair, directions_line}
use Rattle.stack_work.specs.Answers.{region_due}
use Rattle.stack_work.specs.Forms.{yields}
use Rattle.stack_work.specs.Work.{◌>>=◌}
use Rattle.stack_work.specs.Yielding.{directions_step, region_step, directions_work}
use Rattle.stack_work.proofs.YieldEnds.{after_text, directions_are, loads_are}
use Rattle.stack_said.specs.MainTheorem.{IsGivenOut, RunMeets}
use Rattle.stack_said.specs.Promise.{IsShort, told_as, Fulfils}
use Rattle.stack_said.specs.PairPromise.{PairCase, is_pair, is_in_the_way, IsPairStatus, IsPairDue, PairComes}
use Rattle.stack_said.specs.PairPromise.{pair_promise}
use Rattle.stack_said.specs.RegionPromise.{RegionCase, each_reaches, one_falls, is_unpaired, is_long, is_faulty}
use Rattle.stack_said.specs.RegionPromise.{is_wide}
use Rattle.stack_said.specs.RegionPromise.{is_spent, region_status, TellsDirections, RegionComes, IsRegionDue}
use Rattle.stack_said.specs.RegionPromise.{region_promise}
use Rattle.stack_said.proofs.Deciding.{toward_is_seven}
use Rattle.stack_said.proofs.Returned.{below_two}
use Rattle.stack_said.proofs.PromiseFulfilled.{EndsIn, once, at_once, fault_is, read_any, read_short, read_long}
use Rattle.stack_said.proofs.PromiseFulfilled.{fulfils}

-- The end of the work in each case.
abbrev IsRegionEnd : (budget : ℕ) → Surveyed → RegionCase → Result Due Fault → Type 0
IsRegionEnd budget v (each_reaches loads ds) e =
    (rs : List ReachValue) × (e ≡ Ok (region_due v loads.i loads.j ds (points rs)))
IsRegionEnd budget v (one_falls loads ds k y) e = e ≡ Ok (region_due v loads.i loads.j ds (collapse y))
IsRegionEnd budget v (is_unpaired number) e = e ≡ Err (no_pair number)
IsRegionEnd budget v (is_long loads) e = e ≡ Err (long inputs.Directions)
IsRegionEnd budget v (is_faulty loads number) e = e ≡ Err (directions_line number)
IsRegionEnd budget v (is_wide loads ds k p) e = e ≡ Err (wide_toward (k + 1) v.structure p)
IsRegionEnd budget v (is_spent loads ds k) e = e ≡ Err (over_budget budget)

module _ (i j : ℕ) (name : List ℕ) (budget : ℕ) (holds : Holds) (v : Surveyed) where
  abbrev PairEnds : (Result Due Fault → Type 0) → Type 0
  PairEnds IsDue = EndsIn holds (paired_file i j name budget v) IsDue

  unpaired : (number : ℕ) → pair_of v.structure i j ≡ Err number → PairEnds (λ e. e ≡ Err (no_pair number))
  unpaired number is = at_once holds _ _ refl (loads_are v i j name budget (Err number) is)

  paired : {IsDue : Result Due Fault → Type 0} (loads : LoadPair) → pair_of v.structure i j ≡ Ok loads
      → EndsIn holds (directed_file name budget v loads) IsDue → PairEnds IsDue
  paired {IsDue} loads is h = subst (λ w. EndsIn holds w IsDue) (sym (loads_are v i j name budget (Ok loads) is)) h

  -- no direction and no text of directions is refused as a number that names no load
  abbrev OtherDue : LoadPair → Result Due Fault → Type 0
  OtherDue loads = IsPairDue (is_pair loads)

  outcomes_not : (loads : LoadPair) (ds : List (ℤ × ℤ)) (o : Outcomes)
      → EndsIn holds (region_step budget v loads.i loads.j ds o) (OtherDue loads)
  outcomes_not loads ds (answered r) = at_once holds _ (Ok (region_due v loads.i loads.j ds r)) tt refl
  outcomes_not loads ds (passes_at k p) = at_once holds _ (Err (wide_toward (k + 1) v.structure p)) (λ e.
      let h : 7 ≡ 15 = sym (toward_is_seven (k + 1) v.structure p) ∙ e in absurd (omega (arith, h))) refl
  outcomes_not loads ds (spends_at k) = at_once holds _ (Err (over_budget budget)) (λ e. absurd (omega (arith, e))) refl
  outcomes_not loads ds no_outcomes = at_once holds _ (Err memory) (λ e. absurd (omega (arith, e))) refl

  text_not : (loads : LoadPair) (r : Result (List (ℤ × ℤ)) ℕ) → EndsIn holds (directions_step r >>= λ ds.
      region_step budget v loads.i loads.j ds (outcomes v loads.i loads.j budget ds)) (OtherDue loads)
  text_not loads (Ok ds) = outcomes_not loads ds (outcomes v loads.i loads.j budget ds)
  text_not loads (Err number) = at_once holds _ (Err (directions_line number)) (λ e. absurd (omega (arith, e))) refl

  bytes_not : (loads : LoadPair) (b : Bool) (text : List ℕ) → EndsIn holds
      ((if b then refuses (long inputs.Directions) else gives text) >>= directions_work budget v loads) (OtherDue loads)
  bytes_not loads true text = at_once holds _ (Err (long inputs.Directions)) (λ e. absurd (omega (arith, e))) refl
  bytes_not loads false text = text_not loads (directions_of text)

  pair_each : (x : PairCase) → PairComes i j v x → PairEnds (IsPairDue x)
  unfolding directed_file
  pair_each (is_pair loads) is = paired loads is (read_any holds inputs.Directions name (directions_work budget v loads)
      (λ text may. bytes_not loads (ltb greatest_file (length text)) text))
  pair_each (is_in_the_way number) is = unpaired number is

  pair_some : (r : Result LoadPair ℕ) → pair_of v.structure i j ≡ r → (x : PairCase) × PairComes i j v x
  pair_some (Ok loads) is = (is_pair loads, is)
  pair_some (Err number) is = (is_in_the_way number, is)

  module _ (text : List ℕ) (held : holds name ≡ Some text) where
    on_short : {IsDue : Result Due Fault → Type 0} (loads : LoadPair) → pair_of v.structure i j ≡ Ok loads
        → IsShort text → EndsIn holds (directions_work budget v loads text) IsDue → PairEnds IsDue
    unfolding directed_file
    on_short loads is short h = paired loads is (read_short holds inputs.Directions name _ text held short h)

    on_outcomes : {IsDue : Result Due Fault → Type 0} (e : Result Due Fault) (loads : LoadPair) (ds : List (ℤ × ℤ))
        (o : Outcomes) → IsDue e → TellsDirections i j text budget v loads ds → outcomes v loads.i loads.j budget ds ≡ o
        → region_step budget v loads.i loads.j ds o ≡ once e → PairEnds IsDue
    on_outcomes e loads ds o due told comes ends = on_short loads told.0 told.1 (at_once holds _ e due
        (directions_are v loads text budget ds told.2 o comes ∙ ends))

    each : (x : RegionCase) → RegionComes i j text budget v x → PairEnds (IsRegionEnd budget v x)
    unfolding directed_file
    each (each_reaches loads ds) (told, h) = let d = (directions_are_decided v loads.i loads.j budget ds).reach h in
        on_outcomes _ loads ds (answered (points d.0)) (d.0, refl) told d.1 refl
    each (one_falls loads ds k y) (told, h) = on_outcomes _ loads ds (answered (collapse y)) refl told
        ((directions_are_decided v loads.i loads.j budget ds).fall k y h) refl
    each (is_unpaired number) is = unpaired number is
    each (is_long loads) (is, more) = paired loads is (read_long holds inputs.Directions name _ text held more)
    each (is_faulty loads number) (is, short, line) =
        on_short loads is short (at_once holds _ _ refl (ap (after_text v loads text budget) line))
    each (is_wide loads ds k p) (told, h) = on_outcomes _ loads ds (passes_at k p) refl told
        ((directions_are_decided v loads.i loads.j budget ds).wide k p h) refl
    each (is_spent loads ds k) (told, h) = on_outcomes _ loads ds (spends_at k) refl told
        ((directions_are_decided v loads.i loads.j budget ds).over_budget k h) refl

    abbrev IsSome : Type 0
    IsSome = (x : RegionCase) × RegionComes i j text budget v x

    by_outcomes : (loads : LoadPair) (ds : List (ℤ × ℤ)) → TellsDirections i j text budget v loads ds → (o : Outcomes)
        → AreByDirections v loads.i loads.j budget ds o → IsSome
    by_outcomes loads ds told (answered (points rs)) h = (each_reaches loads ds, (told, h))
    by_outcomes loads ds told (answered (collapse y)) h = (one_falls loads ds h.0 y, (told, h.1))
    by_outcomes loads ds told (passes_at k p) h = (is_wide loads ds k p, (told, h))
    by_outcomes loads ds told (spends_at k) h = (is_spent loads ds k, (told, h))
    by_outcomes loads ds told no_outcomes h = absurd h

    by_text : (loads : LoadPair) → pair_of v.structure i j ≡ Ok loads → IsShort text → (r : Result (List (ℤ × ℤ)) ℕ)
        → directions_of text ≡ r → IsSome
    by_text loads is short (Ok ds) line = by_outcomes loads ds (is, short, line) (outcomes v loads.i loads.j budget ds)
        (outcomes_are_by_directions v loads.i loads.j budget ds)
    by_text loads is short (Err number) line = (is_faulty loads number, (is, short, line))

    by_length : (loads : LoadPair) → pair_of v.structure i j ≡ Ok loads → (b : Bool)
        → ltb greatest_file (length text) ≡ b → IsSome
    by_length loads is true e = (is_long loads, (is, ltb-true _ _ e))
    by_length loads is false e = by_text loads is (ltb-false _ _ e) (directions_of text) refl

    some : (r : Result LoadPair ℕ) → pair_of v.structure i j ≡ r → IsSome
    some (Ok loads) is = by_length loads is (ltb greatest_file (length text)) refl
    some (Err number) is = (is_unpaired number, is)

pair_status : (v : Surveyed) (x : PairCase) (e : Result Due Fault) → IsPairDue x e → (n : ℕ) (out err : StreamSeen)
    → IsGivenOut (told_as e) n out err → IsPairStatus x n
pair_status v (is_in_the_way number) e due n out err g = fault_is out err due g
pair_status v (is_pair loads) (Ok due) is n out err g = λ e. let h = g.3 in let l = below_two g.0 in
    absurd (omega (arith, h, l, e))
pair_status v (is_pair loads) (Err f) not n out err g = λ e. not (sym g.0 ∙ e)

tells : (i j : ℕ) (text : List ℕ) (budget : ℕ) (v : Surveyed) (x : RegionCase) (e : Result Due Fault)
    → IsRegionEnd budget v x e → (n : ℕ) (out err : StreamSeen) → IsGivenOut (told_as e) n out err
    → (n ≡ region_status x) × IsRegionDue i j text budget v x e
tells i j text budget v (each_reaches loads ds) e (rs, is) n out err g =
    let h = subst (λ d. IsGivenOut (told_as d) n out err) is g in
    (h.3 ∙ ap verdict_status h.2.is_verdict, (rs, h.2.tells, is))
tells i j text budget v (one_falls loads ds k y) e is n out err g =
    let h = subst (λ d. IsGivenOut (told_as d) n out err) is g in
    (h.3 ∙ ap verdict_status h.2.is_verdict, (h.2.judged.shows.fall, is))
tells i j text budget v (is_unpaired number) e is n out err g = (fault_is out err is g, is)
tells i j text budget v (is_long loads) e is n out err g = (fault_is out err is g, is)
tells i j text budget v (is_faulty loads number) e is n out err g = (fault_is out err is g, is)
tells i j text budget v (is_wide loads ds k p) e is n out err g =
    (fault_is out err is g ∙ toward_is_seven (k + 1) v.structure p, is)
tells i j text budget v (is_spent loads ds k) e is n out err g = (fault_is out err is g, is)

pub pair_fulfils : {status : ℕ} {form : Option Form} {shelf : ShelfSeen} {out err : StreamSeen}
    → RunMeets status form shelf out err → (model : List ℕ) (i j : ℕ) (name : List ℕ) (budget : ℕ) (bytes : List ℕ)
    → form ≡ Some (yields model i j name budget) → shelf.holds model ≡ Some bytes
    → Fulfils (pair_promise i j) bytes status shelf out err
unfolding yield_work
pair_fulfils {status} {form} {shelf} {out} {err} m model i j name budget bytes is told = fulfils
    (pair_promise i j) m (yields model i j name budget) model bytes (paired_file i j name budget) is refl told (record {
      some = λ v accepted. pair_some i j name budget shelf.holds v (pair_of v.structure i j) refl;
      each = λ v accepted. pair_each i j name budget shelf.holds v;
      tells = λ v x e due n out err g. (pair_status v x e due n out err g, due);
    })

pub region_fulfils : {status : ℕ} {form : Option Form} {shelf : ShelfSeen} {out err : StreamSeen}
    → RunMeets status form shelf out err → (model : List ℕ) (i j : ℕ) (name : List ℕ) (budget : ℕ) (bytes text : List ℕ)
    → form ≡ Some (yields model i j name budget) → shelf.holds model ≡ Some bytes → shelf.holds name ≡ Some text
    → Fulfils (region_promise i j text budget) bytes status shelf out err
unfolding yield_work
region_fulfils {status} {form} {shelf} {out} {err} m model i j name budget bytes text is told held = fulfils
    (region_promise i j text budget) m (yields model i j name budget) model bytes (paired_file i j name budget) is refl
    told (record {
      some = λ v accepted. some i j name budget shelf.holds v text held (pair_of v.structure i j) refl;
      each = λ v accepted. each i j name budget shelf.holds v text held;
      tells = tells i j text budget;
    })
