-- The pairs by first and second body, each once.
use Rattle.std.proofs.Common.{◌≡◌, List, Bool, true, Ordering, Less, Equal, Greater, inl, inr, refl, sym, subst, arith}
use Rattle.std.proofs.Common.{◌&&◌, nat_eq}
use Rattle.std.specs.List.{dedup}
use Rattle.std.specs.List.Sorted.{IsPermutation, IsSorted, IsStrictlySortedBy}
use Rattle.std.specs.Ordering.{nat_cmp, ordering_then, eq_by_cmp}
use Rattle.std.specs.Cmp.{IsTotalOrder, IsEquivalence, nat_cmp_total, on_total, then_total, nat_eq_equiv, on_equiv}
use Rattle.std.specs.Cmp.{and_equiv, unsigned_ties, both_tied}
use Rattle.std.proofs.lemmas.List.Elements.{All-contains, Contains-get_or}
use Rattle.std.proofs.lemmas.List.Kept.{Contains-dedup, Contains-from_dedup, IsStrictlySortedBy-dedup}
use Rattle.std.proofs.lemmas.List.Sorted.{All-permutation, Contains-permutation}
use Rattle.std.proofs.lemmas.Map.Keys.{Less-from_sorted}
use lib.ListN.{get_or}
use Rattle.stack_model.specs.Structure.{Structure}
use Rattle.stack_contact.specs.declared.sweeping.Pair.{Pair}
use Rattle.stack_contact.specs.ContactLists.{IsPair, PairBefore}
use Rattle.stack_contact.specs.NearPairs.{pair, AreNearPairs, IsOrdered}

abbrev pub by_bodies : Pair → Pair → Ordering
by_bodies a b = ordering_then (nat_cmp a.first b.first) (nat_cmp a.second b.second)

abbrev pub is_same : Pair → Pair → Bool
is_same a b = nat_eq a.first b.first && nat_eq a.second b.second

by_bodies_total : IsTotalOrder by_bodies
by_bodies_total = then_total (on_total (λ (p : Pair). p.first) nat_cmp_total)
    (on_total (λ (p : Pair). p.second) nat_cmp_total)

is_same_equiv : IsEquivalence is_same
is_same_equiv = and_equiv (on_equiv (λ (p : Pair). p.first) nat_eq_equiv)
    (on_equiv (λ (p : Pair). p.second) nat_eq_equiv)

ties : (a b : Pair) → is_same a b ≡ eq_by_cmp by_bodies a b
ties a b = both_tied (nat_eq a.first b.first) (nat_eq a.second b.second) (nat_cmp a.first b.first)
    (nat_cmp a.second b.second) (unsigned_ties a.first b.first) (unsigned_ties a.second b.second)

one-pair : (a b : Pair) → is_same a b ≡ true → a ≡ b
one-pair a b e = λ n. record { first = first n; second = second n }
  where
    first : a.first ≡ b.first
    first = grind arith

    second : a.second ≡ b.second
    second = grind arith

less : (a b : Pair) → by_bodies a b ≡ Less → PairBefore a.first a.second b.first b.second
less a b e = go (nat_cmp a.first b.first) refl (nat_cmp a.second b.second) refl e
  where
    go : (s : Ordering) → nat_cmp a.first b.first ≡ s → (t : Ordering) → nat_cmp a.second b.second ≡ t
        → ordering_then s t ≡ Less → PairBefore a.first a.second b.first b.second
    go Less f t g h = inl (grind arith)
    go Equal f Less g h = inr (grind arith, grind arith)
    go Equal f Equal g h = absurd (cc h)
    go Equal f Greater g h = absurd (cc h)
    go Greater f t g h = absurd (cc h)

pub near-kept : (s : Structure) (ps qs rs : List Pair) → AreNearPairs s ps → IsPermutation ps qs
    → rs ≡ dedup is_same qs → AreNearPairs s rs
near-kept s ps qs rs h p e = subst (AreNearPairs s) (sym e) (record {
  pairs = λ k d l. All-contains (λ (p : Pair). IsPair s p.first p.second) qs (get_or (dedup is_same qs) k d)
      (All-permutation (λ (p : Pair). IsPair s p.first p.second) ps qs p h.pairs)
      (Contains-from_dedup is_same qs (get_or (dedup is_same qs) k d)
      (Contains-get_or (dedup is_same qs) k d l));
  all = λ i j q. elim (h.all i j q) [
    | inl f ↦ inl f
    | inr c ↦ inr (Contains-dedup is_same_equiv one-pair qs (pair i j) (Contains-permutation ps qs (pair i j) p c))
  ];
})

pub pairs-rise : (qs rs : List Pair) → IsSorted by_bodies qs → rs ≡ dedup is_same qs → IsOrdered rs
pairs-rise qs rs up e m n d l k = less (get_or rs m d) (get_or rs n d) (Less-from_sorted by_bodies rs m n d
    (subst (IsStrictlySortedBy by_bodies) (sym e) (IsStrictlySortedBy-dedup by_bodies_total ties qs up)) l k)
