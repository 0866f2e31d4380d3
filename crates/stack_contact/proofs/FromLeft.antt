-- The bodies from left to right: all of them, and in order.
use Rattle.std.proofs.Common.{◌≡◌, ℕ, ◌+◌, ◌<◌, ℤ, List, [], ◌∷◌, ◌++◌, length, false, ◌⊎◌, inl, inr, sym, ap, ◌∙◌}
use Rattle.std.proofs.Common.{subst, arith, Ordering}
use Rattle.std.specs.List.{All, Contains}
use Rattle.std.specs.List.Sorted.{IsPermutation, IsSorted}
use Rattle.std.specs.Ordering.{nat_cmp, int_cmp, ordering_then, is_lt}
use Rattle.std.specs.Cmp.{IsTotalOrder, int_cmp_total, nat_cmp_total, on_total, then_total}
use Rattle.std.proofs.lemmas.Int.{ints}
use Rattle.std.proofs.lemmas.List.{get_or_default}
use Rattle.std.proofs.lemmas.List.Elements.{All-push, Contains-push, Contains-append_left}
use Rattle.std.proofs.lemmas.List.Sorted.{All-permutation, Contains-permutation, sorted_far, ranks_by}
use native.Mathlib.Decide.{ℕ_discrete}
use Rattle.stack_algebra.specs.IntegerOrder.{◌≼◌}
use Rattle.stack_polygon.specs.declared.point.Point.{Point}
use Rattle.stack_polygon.specs.declared.point.Span.{Span}
use Rattle.stack_polygon.specs.Limits.{IsPolygon}
use Rattle.stack_polygon.specs.Corners.{corner_of}
use Rattle.stack_polygon.specs.Spans.{IsLeast, IsSpanOf}
use Rattle.stack_model.specs.Structure.{Structure}
use Rattle.stack_contact.specs.declared.sweeping.Placed.{Placed}
use Rattle.stack_contact.specs.ContactLists.{corners_of}
use Rattle.stack_contact.specs.NearPairs.{IsPlacedBody, placed_at, AreFromLeft}

abbrev IsLeastX : List Point → ℤ → Type 0
IsLeastX P z = IsLeast (length P) (λ j. (corner_of P j).x) z

-- the bodies below n stand in the list
pub record ArePlacedTo (s : Structure) (n : ℕ) (bs : List Placed) : Type 0 where
  pub each : All (IsPlacedBody s) bs
  pub all : (i : ℕ) → i < n → (b : Placed) × (Contains bs b × (b.body ≡ i))

module _ (s : Structure) where
  pub one-placed : (i : ℕ) (P : List Point) (a : Span) (b : Placed) → i < length s.bodies → P ≡ corners_of s i
      → IsPolygon P → IsSpanOf P a → b.x0 ≡ a.x0 → b.body ≡ i → IsPlacedBody s b
  one-placed i P a b l e p h x f = record {
    is_body = subst (λ i. i < length s.bodies) (sym f) l;
    polygon = subst IsPolygon same p;
    begins = subst (λ P. IsLeastX P b.x0) same (subst (IsLeastX P) (sym x) h.x0);
  }
    where
      same : P ≡ corners_of s b.body
      same = e ∙ ap (corners_of s) (sym f)

  pub more-placed : (n : ℕ) (bs : List Placed) (b : Placed) → IsPlacedBody s b → b.body ≡ n → ArePlacedTo s n bs
      → ArePlacedTo s (n + 1) (bs ++ b ∷ [])
  more-placed n bs b p e h = record {
    each = All-push (IsPlacedBody s) bs b h.each p;
    all = λ i l. go i (before i l);
  }
    where
      before : (i : ℕ) → i < n + 1 → (i < n) ⊎ (i ≡ n)
      before i l = elim (ℕ_discrete i n) [ yes e ↦ inr e | no n ↦ inl (omega (arith, n)) ]

      go : (i : ℕ) → (i < n) ⊎ (i ≡ n) → (b' : Placed) × (Contains (bs ++ b ∷ []) b' × (b'.body ≡ i))
      go i (inl l) = let r = h.all i l in (r.0, (Contains-append_left bs (b ∷ []) r.0 r.1.0, r.1.1))
      go i (inr f) = (b, (Contains-push bs b, e ∙ sym f))

-- the order of the sort: by the least x, then by number
abbrev pub by_x0 : Placed → Placed → Ordering
by_x0 a b = ordering_then (int_cmp a.x0 b.x0) (nat_cmp a.body b.body)

by_x0_total : IsTotalOrder by_x0
by_x0_total = then_total (on_total (λ (b : Placed). b.x0) int_cmp_total)
    (on_total (λ (b : Placed). b.body) nat_cmp_total)

not-less : (a b : Placed) → is_lt (by_x0 b a) ≡ false → a.x0 ≼ b.x0
not-less a b e = grind (arith, ints)

pub sorted-bodies : (s : Structure) (n : ℕ) (bs cs : List Placed) → n ≡ length s.bodies → ArePlacedTo s n bs
    → IsPermutation bs cs → IsSorted by_x0 cs → AreFromLeft s cs
sorted-bodies s n bs cs e h p up = record {
  each = All-permutation (IsPlacedBody s) bs cs p h.each;
  all = λ i l. let r = h.all i (omega (arith, l, e)) in
      let c = Contains-permutation bs cs r.0 p r.1.0 in
      (c.0, (c.1, ap (λ (b : Placed). b.body) (get_or_default cs c.0 _ r.0 c.1 ∙ c.2) ∙ r.1.1));
  rising = λ k m l o. not-less (placed_at cs k) (placed_at cs m)
      (sorted_far (λ a b. is_lt (by_x0 a b)) (ranks_by by_x0_total (λ b. b)) cs up k m _ l o);
}
