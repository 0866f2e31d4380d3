-- The outline of a list of points, by cases on its tests.
use Rattle.std.proofs.Common.{◌≡◌, ◌≢◌, refl, ap, ℕ, zero, suc, ◌<◌, Bool, true, false, ◌&&◌, List, length, inl, inr}
use Rattle.std.proofs.Common.{arith, Ok, Err, MatchResult, if◌then◌else◌}
use Rattle.stack_algebra.specs.Search.{next_round}
use Rattle.stack_algebra.proofs.Search.{IsAfter, next_round-cases}
use Rattle.stack_polygon.specs.declared.point.Point.{Point}
use Rattle.stack_polygon.specs.Corners.{reversed, IsStrictlyConvex}
use Rattle.stack_polygon.specs.Outlines.{all_below, first_failing, is_clear, is_convex}
use Rattle.stack_polygon.specs.Admission.{IsFirstUnclear}
use Rattle.stack_polygon.proofs.Tested.{each_below, clear_from, to_clear, convex_from, to_convex}
use Rattle.stack_faults.specs.Outline.{IsOutlineOf, HasNoOutline, OutlineByMeaning, FewPointsAreTheirOutline}

-- i is the first number below n that doesn't pass
record IsFirstFailing (p : ℕ → Bool) (n i : ℕ) : Type 0 where
  pub below : i < n
  pub fails : p i ≡ false
  pub before : (k : ℕ) → k < i → p k ≡ true

first_fails : (p : ℕ → Bool) (n : ℕ) → all_below p n ≡ false → IsFirstFailing p n (first_failing p n)
first_fails p zero h = absurd cc
first_fails p (suc n) h = go (all_below p n) refl h (first_fails p n)
  where
    go : (b : Bool) → all_below p n ≡ b → b && p n ≡ false
        → (all_below p n ≡ false → IsFirstFailing p n (first_failing p n))
        → IsFirstFailing p (suc n) (if b then n else first_failing p n)
    go true e f rest = record { below = omega arith; fails = f; before = each_below p n e }
    go false e f rest = let r = rest e in
        record { below = omega (arith, r.below); fails = r.fails; before = r.before }

refuted : {P : Type 0} (b : Bool) → b ≡ false → (P → b ≡ true) → ¬ P
refuted b e f x = let t = f x in absurd cc

unclear : (ps : List Point) → is_convex ps ≡ false → IsFirstUnclear ps (first_failing (is_clear ps) (length ps))
unclear ps h = let f = first_fails (is_clear ps) (length ps) h in
    record {
      is_edge = f.below;
      before = λ k l. clear_from ps k (f.before k l);
      unclear = refuted (is_clear ps (first_failing (is_clear ps) (length ps))) f.fails
          (to_clear ps (first_failing (is_clear ps) (length ps)));
    }

pub no_outline : (ps : List Point) → is_convex ps ≡ false → is_convex (reversed ps) ≡ false
    → HasNoOutline ps (first_failing (is_clear ps) (length ps))
no_outline ps es et = record {
  not_convex = refuted (is_convex ps) es (to_convex ps);
  nor_reversed = refuted (is_convex (reversed ps)) et (to_convex (reversed ps));
  edge = unclear ps es;
}

pub by_meaning : OutlineByMeaning
by_meaning ps = go (is_convex ps) (is_convex (reversed ps)) refl refl
  where
    go : (s t : Bool) → is_convex ps ≡ s → is_convex (reversed ps) ≡ t
        → MatchResult (if s then Ok ps
        else (if t then Ok (reversed ps) else Err (first_failing (is_clear ps) (length ps))))
        (λ qs. IsOutlineOf ps qs) (λ e. HasNoOutline ps e)
    go true t es et = record { stands = inl (convex_from ps es, refl); convex = convex_from ps es }
    go false true es et = record {
      stands = inr (refuted (is_convex ps) es (to_convex ps), refl);
      convex = convex_from (reversed ps) et;
    }
    go false false es et = no_outline ps es et

-- of fewer than three points each is an end of each edge
ends : (n i j k : ℕ) → n < 3 → i < n → j < n → j ≢ i → j ≢ k → IsAfter n i k → ⊥
ends n i j k few l m other after (inl h) = omega (arith, few, l, m, other, after, h.0, h.1)
ends n i j k few l m other after (inr h) = omega (arith, few, l, m, other, after, h.0, h.1)

few_convex : (ps : List Point) → length ps < 3 → IsStrictlyConvex ps
few_convex ps few i l j m other after =
    absurd (ends (length ps) i j (next_round (length ps) i) few l m other after (next_round-cases (length ps) i l))

pub few_points : FewPointsAreTheirOutline
few_points ps few = ap (λ b. if b then Ok ps
    else (if is_convex (reversed ps) then Ok (reversed ps) else Err (first_failing (is_clear ps) (length ps))))
    (to_convex ps (few_convex ps few))
