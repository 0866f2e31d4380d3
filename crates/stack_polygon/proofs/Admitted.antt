-- What a list of corners becomes, by meaning and by tests, is one answer.
use Rattle.std.proofs.Common.{inl, inr, arith, Ok, Err, if◌then◌else◌}
use mathlib.Core.Path.{◌≡◌, refl, sym, ap, ◌∙◌, subst}
use mathlib.Core.Bool.{Bool, true, false}
use mathlib.Core.List.{List}
use Prim.Native.Nat.{ℕ, zero, suc, ◌<◌, ◌≤◌}
use lib.ListN.{length}
use Rattle.std.proofs.lemmas.Int.{ints}
use Rattle.stack_polygon.specs.declared.point.Point.{Point}
use Rattle.stack_polygon.specs.declared.errors.PolygonError.{PolygonError}
use Rattle.stack_polygon.specs.declared.errors.PolygonError.TheVariants.{Corners, Range, NotConvex}
use Rattle.stack_polygon.specs.Corners.{corner_of, reversed, IsStrictlyConvex}
use Rattle.stack_polygon.specs.Limits.{IsPolygon, AreInRange, is_in_range, are_in_range}
use Rattle.stack_polygon.specs.Outlines.{all_below, first_failing, is_clear, is_convex, outline_of}
use Rattle.stack_polygon.specs.Admission.{IsCount, IsFirstUnclear, IsAdmittedAs, IsRefusedAs, is_count, first_far_of}
use Rattle.stack_polygon.specs.Admission.{polygon_of, with_edge}
use Rattle.stack_polygon.proofs.Ranges.{length-reversed, range-reversed, all_in_range, in_range, to_range}
use Rattle.stack_polygon.proofs.Ranges.{to_all_in_range}
use Rattle.stack_polygon.proofs.Tested.{each_below, below_each, clear_from, to_clear, convex_from, to_convex}

-- a test is false where what it decides is not so
refuted : {P : Type 0} (b : Bool) → (b ≡ true → P) → ¬ P → b ≡ false
refuted true f n = absurd (n (f refl))
refuted false f n = refl

-- the first number that doesn't pass is found
found : (p : ℕ → Bool) (n i : ℕ) → i < n → ((k : ℕ) → k < i → p k ≡ true) → p i ≡ false
    → first_failing p n ≡ i
found p zero i lt before fails = absurd (omega arith)
found p (suc n) i lt before fails = go (all_below p n) refl (λ l. found p n i l before fails)
  where
    last : (i n : ℕ) → ¬ (i < n) → i < suc n → n ≡ i
    last i n f l = grind arith

    below : (i n : ℕ) → ¬ (i ≡ n) → i < suc n → i < n
    below i n f l = grind arith

    go : (b : Bool) → all_below p n ≡ b → (i < n → first_failing p n ≡ i)
        → (if b then n else first_failing p n) ≡ i
    go true e rest = last i n (λ l. let t = each_below p n e i l in absurd (cc)) lt
    go false e rest =
        rest (below i n (λ same. let t = below_each p n (λ k l. before k (subst (λ m. k < m) (sym same) l)) in
        absurd (cc)) lt)

counted : (n : ℕ) → IsCount n → is_count n ≡ true
counted n h = let low = h.least in let high = h.most in grind (arith, ints)

uncounted : (n : ℕ) → ¬ (IsCount n) → is_count n ≡ false
uncounted n f = refuted (is_count n) (λ h. record { least = grind (arith, ints); most = grind (arith, ints) }) f

-- each answer by meaning is that of the tests
from_outline : (ps : List Point) → IsCount (length ps) → AreInRange ps → with_edge (outline_of ps) ≡ polygon_of ps
from_outline ps n r = λ i. if sym (counted (length ps) n) i
    then (if sym (to_all_in_range ps r) i then with_edge (outline_of ps) else Err (Range (first_far_of ps)))
    else Err Corners

outline_straight : (ps : List Point) → IsStrictlyConvex ps → Ok ps ≡ with_edge (outline_of ps)
outline_straight ps h = λ i. with_edge (if sym (to_convex ps h) i then Ok ps
    else (if is_convex (reversed ps) then Ok (reversed ps) else Err (first_failing (is_clear ps) (length ps))))

outline_reversed : (ps : List Point) → ¬ (IsStrictlyConvex ps) → IsStrictlyConvex (reversed ps)
    → Ok (reversed ps) ≡ with_edge (outline_of ps)
outline_reversed ps f h = λ i. with_edge (if sym (refuted (is_convex ps) (convex_from ps) f) i then Ok ps
    else (if sym (to_convex (reversed ps) h) i then Ok (reversed ps)
    else Err (first_failing (is_clear ps) (length ps))))

outline_none : (ps : List Point) (e : ℕ) → IsFirstUnclear ps e → ¬ (IsStrictlyConvex (reversed ps))
    → Err (NotConvex e) ≡ with_edge (outline_of ps)
outline_none ps e h g = (λ i. Err (NotConvex (sym first i)))
    ∙ (λ i. with_edge (if sym (refuted (is_convex ps) (convex_from ps) (λ k. h.unclear (k e h.is_edge))) i then Ok ps
    else (if sym (refuted (is_convex (reversed ps)) (convex_from (reversed ps)) g) i then Ok (reversed ps)
    else Err (first_failing (is_clear ps) (length ps)))))
  where
    first : first_failing (is_clear ps) (length ps) ≡ e
    first = found (is_clear ps) (length ps) e h.is_edge (λ k l. to_clear ps k (h.before k l))
        (refuted (is_clear ps e) (clear_from ps e) h.unclear)

pub admitted : (ps qs : List Point) → IsAdmittedAs ps qs → Ok qs ≡ polygon_of ps
admitted ps qs h = elim h.stands [
  | inl s ↦ ap Ok s.1 ∙ outline_straight ps s.0 ∙ from_outline ps h.count h.in_range
  | inr s ↦ ap Ok s.1 ∙ outline_reversed ps s.0 (subst IsStrictlyConvex s.1 h.convex)
      ∙ from_outline ps h.count h.in_range
]

pub refused : (ps : List Point) (e : PolygonError) → IsRefusedAs ps e → Err e ≡ polygon_of ps
refused ps Corners h = λ i. if sym (uncounted (length ps) h) i
    then (if are_in_range ps then with_edge (outline_of ps) else Err (Range (first_far_of ps)))
    else Err Corners
refused ps (Range k) h = (λ i. Err (Range (sym first i)))
    ∙ (λ i. if sym (counted (length ps) h.0) i
    then (if sym out i then with_edge (outline_of ps) else Err (Range (first_far_of ps)))
    else Err Corners)
  where
    first : first_far_of ps ≡ k
    first = found (λ i. is_in_range (corner_of ps i)) (length ps) k h.1.is_corner
        (λ j l. to_range (corner_of ps j) (h.1.before j l))
        (refuted (is_in_range (corner_of ps k)) (in_range (corner_of ps k)) h.1.far)

    out : are_in_range ps ≡ false
    out = refuted (are_in_range ps) (all_in_range ps) (λ r. h.1.far (r k h.1.is_corner))
refused ps (NotConvex e) h = outline_none ps e h.2 h.3 ∙ from_outline ps h.0 h.1

-- the reversal, as the code holds it, is in range
pub range-held : (old held new seen : List Point) → held ≡ old → seen ≡ new → new ≡ reversed old → AreInRange held
    → AreInRange seen
range-held old held new seen e f g h = subst AreInRange (sym (f ∙ g)) (range-reversed old (subst AreInRange e h))

pub count-kept : (old new : List Point) → new ≡ reversed old → IsCount (length old) → IsCount (length new)
count-kept old new g h = subst IsCount (sym (ap length g ∙ length-reversed old)) h

-- the number of corners, as two tests of it tell
pub count-read : (n m k l : ℕ) → m ≡ n → 3 ≤ m → k ≡ n → k ≤ 32 → n ≡ l → IsCount l
count-read n m k l em lm ek lk el = record { least = omega arith; most = omega arith }

-- a list is a polygon, where both searches found nothing
pub kept-polygon : (ps far clear : List Point) → IsCount (length ps) → far ≡ ps → AreInRange far → clear ≡ ps
    → IsStrictlyConvex clear → IsPolygon ps
kept-polygon ps far clear n ef r ec k = record {
  least = n.least;
  most = n.most;
  in_range = subst AreInRange ef r;
  convex = subst IsStrictlyConvex ec k;
}

-- an unclear edge shows that a list isn't strictly convex
pub no-turn : (ps held seen : List Point) (e : ℕ) → seen ≡ held → held ≡ reversed ps → IsFirstUnclear seen e
    → ¬ (IsStrictlyConvex (reversed ps))
no-turn ps held seen e es eh h k = h.unclear (subst IsStrictlyConvex (sym (es ∙ eh)) k e h.is_edge)

-- a list that is a polygon is admitted as it is
pub admitted-straight : (ps : List Point) → IsPolygon ps → IsAdmittedAs ps ps
admitted-straight ps h = record {
  count = record { least = h.least; most = h.most };
  in_range = h.in_range;
  stands = inl (h.convex, refl);
  convex = h.convex;
}

-- a list with an unclear edge is admitted as its reversal, where that is strictly convex
pub admitted-turned : (ps qs seen : List Point) (e : ℕ) → IsCount (length ps) → AreInRange ps → seen ≡ ps
    → IsFirstUnclear seen e → qs ≡ reversed ps → IsStrictlyConvex qs → IsAdmittedAs ps qs
admitted-turned ps qs seen e n r es h eq k = record {
  count = n;
  in_range = r;
  stands = inr (λ c. h.unclear (subst IsStrictlyConvex (sym es) c e h.is_edge), eq);
  convex = k;
}
