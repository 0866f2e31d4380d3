-- A pair overlaps exactly where no edge separates it.
use Rattle.std.proofs.Common.{below_more, arith}
use mathlib.Core.Logic.{◌⊎◌, inl, inr}
use mathlib.Core.List.{List}
use Prim.Native.Nat.{ℕ, zero, suc, ◌<◌, ◌≤◌}
use lib.IntN.{ℤ, pos}
use lib.ListN.{length}
use Rattle.stack_algebra.proofs.Integers.{sums}
use Rattle.stack_algebra.proofs.Order.{◌≼◌, ◌≺◌}
use Rattle.stack_polygon.specs.declared.point.Point.{Point}
use Rattle.stack_polygon.specs.Corners.{corner_of, side_of}
use Rattle.stack_polygon.specs.Limits.{IsPolygon}
use Rattle.stack_overlap.specs.Separation.{Separates, NoneSeparates, Overlaps}
use Rattle.stack_overlap.proofs.ByForms.{convex-form, outer-form, none-outer, deep-form, form-deep}
use Rattle.stack_overlap.proofs.Overlapping.{search_positive, overlapping as overlapping-forms}
use Rattle.stack_overlap.proofs.NoneInside.{apart}

pub overlapping : (P Q : List Point) → IsPolygon P → IsPolygon Q → NoneSeparates P Q → NoneSeparates Q P
    → Overlaps P Q
overlapping P Q p q h k =
    let r = overlapping-forms P Q (convex-form P p.convex) p.least (convex-form Q q.convex) q.least
    (none-outer P Q h) (none-outer Q P k) in
    (r.0, (form-deep P r.0 r.1.0, form-deep Q r.0 r.1.1))

pub apart-first : (P Q : List Point) → IsPolygon Q → (i : ℕ) → Separates P i Q → ¬ (Overlaps P Q)
apart-first P Q q i h (X, (m, n)) = apart P Q (convex-form Q q.convex) q.least i (outer-form P i Q h)
    (X, (deep-form P X m, deep-form Q X n))

pub apart-second : (P Q : List Point) → IsPolygon P → (i : ℕ) → Separates Q i P → ¬ (Overlaps P Q)
apart-second P Q p i h (X, (m, n)) = apart-first Q P p i h (X, (n, m))

-- an edge of P that separates, if one of the first n does
search-edges : (P Q : List Point) (n : ℕ) → n ≤ length P
    → ((i : ℕ) × Separates P i Q) ⊎ ((k : ℕ) → k < n → ¬ (Separates P k Q))
search-edges P Q zero l = inr (λ k m. absurd (omega arith))
search-edges P Q (suc n) l = elim (search-edges P Q n (omega arith)) [
  | inl r ↦ inl r
  | inr h ↦ elim (search_positive (length Q) (λ j. side_of P n (corner_of Q j))) [
    | inl a ↦ inl (n, record { is_edge = omega arith; apart = a })
    | inr r ↦ inr (λ k m. below_more (λ k. ¬ (Separates P k Q)) n h (λ s. both r.1.1 (s.apart r.0 r.1.0)) k
        (omega arith))
  ]
]
  where
    both : {z : ℤ} → pos 0 ≺ z → z ≼ pos 0 → ⊥
    both l m = omega (arith, sums)

-- polygons with no point strictly inside both have an edge that separates them
pub separated : (P Q : List Point) → IsPolygon P → IsPolygon Q → ¬ (Overlaps P Q)
    → ((i : ℕ) × Separates P i Q) ⊎ ((j : ℕ) × Separates Q j P)
separated P Q p q none = go (search-edges P Q (length P) (omega arith)) (search-edges Q P (length Q) (omega arith))
  where
    Edge : List Point → List Point → Type 0
    Edge P Q = ((i : ℕ) × Separates P i Q) ⊎ ((k : ℕ) → k < length P → ¬ (Separates P k Q))

    go : Edge P Q → Edge Q P → ((i : ℕ) × Separates P i Q) ⊎ ((j : ℕ) × Separates Q j P)
    go (inl r) y = inl r
    go x (inl r) = inr r
    go (inr h) (inr k) = absurd (none (overlapping P Q p q (λ i s. h i s.is_edge s) (λ j s. k j s.is_edge s)))
