-- The tests of outlines decide the facts.
use Rattle.std.proofs.Common.{arith, ◌==◌, int_lt}
use mathlib.Core.Path.{◌≡◌, refl, ap, ◌∙◌}
use mathlib.Core.Logic.{◌⊎◌, inl, inr}
use mathlib.Core.Bool.{Bool, true, false, ◌&&◌, ◌||◌}
use mathlib.Core.List.{List}
use Prim.Native.Nat.{ℕ, zero, suc, ◌<◌}
use lib.IntN.{ℤ, pos}
use lib.ListN.{length}
use Rattle.stack_algebra.proofs.Conjunctions.{both_true}
use Rattle.std.proofs.lemmas.Int.{ints}
use Rattle.std.proofs.lemmas.Bool.Decides.{Decides-eqb}
use Rattle.stack_algebra.specs.IntegerOrder.{◌≺◌}
use Rattle.stack_polygon.specs.declared.point.Point.{Point}
use Rattle.stack_algebra.specs.Search.{next_round}
use Rattle.stack_polygon.specs.Corners.{corner_of, side_of, IsClear, IsStrictlyConvex}
use Rattle.stack_polygon.specs.Outlines.{is_left_or_end, all_below, is_clear, is_convex}

pub each_below : (p : ℕ → Bool) (n : ℕ) → all_below p n ≡ true → (k : ℕ) → k < n → p k ≡ true
each_below p zero h k lt = absurd (omega arith)
each_below p (suc n) h k lt =
    let parts = both_true (all_below p n) (p n) h in
    elim (cases k n lt) [ inl e ↦ ap p e ∙ parts.1 | inr l ↦ each_below p n parts.0 k l ]
  where
    cases : (k n : ℕ) → k < suc n → (k ≡ n) ⊎ (k < n)
    cases k n lt = grind arith

pub below_each : (p : ℕ → Bool) (n : ℕ) → ((k : ℕ) → k < n → p k ≡ true) → all_below p n ≡ true
below_each p zero h = refl
below_each p (suc n) h = (λ i. below_each p n (λ k lt. h k (omega arith)) i && h n (omega arith) i)

left : (z : ℤ) → int_lt (pos 0) z ≡ true → pos 0 ≺ z
left z h = grind (arith, ints)

is_left : (z : ℤ) → pos 0 ≺ z → int_lt (pos 0) z ≡ true
is_left z h = grind (arith, ints)

pub clear_from : (ps : List Point) (i : ℕ) → is_clear ps i ≡ true → IsClear ps i
clear_from ps i h j lt n m = left _ (go (j == i) (j == next_round (length ps) i) refl refl
    (each_below (is_left_or_end ps i) (length ps) h j lt))
  where
    go : (a b : Bool) → j == i ≡ a → j == next_round (length ps) i ≡ b
        → (a || b) || int_lt (pos 0) (side_of ps i (corner_of ps j)) ≡ true
        → int_lt (pos 0) (side_of ps i (corner_of ps j)) ≡ true
    go true b e f h = absurd (n ((Decides-eqb j i).0 e))
    go false true e f h = absurd (m ((Decides-eqb j (next_round (length ps) i)).0 f))
    go false false e f h = h

pub to_clear : (ps : List Point) (i : ℕ) → IsClear ps i → is_clear ps i ≡ true
to_clear ps i h = below_each (is_left_or_end ps i) (length ps) each
  where
    go : (j : ℕ) → j < length ps → (a b : Bool) → j == i ≡ a → j == next_round (length ps) i ≡ b
        → (a || b) || int_lt (pos 0) (side_of ps i (corner_of ps j)) ≡ true
    go j lt true b e f = refl
    go j lt false true e f = refl
    go j lt false false e f = is_left _ (h j lt (λ same. let t = (Decides-eqb j i).1 same in cc)
        (λ same. let t = (Decides-eqb j (next_round (length ps) i)).1 same in cc))

    each : (j : ℕ) → j < length ps → is_left_or_end ps i j ≡ true
    each j lt = go j lt (j == i) (j == next_round (length ps) i) refl refl

pub convex_from : (ps : List Point) → is_convex ps ≡ true → IsStrictlyConvex ps
convex_from ps h i lt = clear_from ps i (each_below (is_clear ps) (length ps) h i lt)

pub to_convex : (ps : List Point) → IsStrictlyConvex ps → is_convex ps ≡ true
to_convex ps h = below_each (is_clear ps) (length ps) (λ i lt. to_clear ps i (h i lt))
