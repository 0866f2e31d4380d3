-- From one near pair to the next: the pairs between them have nothing in common.
use Rattle.std.proofs.Common.{◌≡◌, ℕ, zero, suc, ◌+◌, ◌<◌, ◌≤◌, List, [], ◌∷◌, length, ◌⊎◌, inl, inr}
use Rattle.std.proofs.Common.{refl, sym, ◌∙◌, subst, subst₂, arith}
use lib.ListN.{get_or}
use Rattle.std.proofs.lemmas.List.{get_or_default}
use Rattle.std.proofs.lemmas.List.Elements.{All-get_or}
use Rattle.stack_polygon.specs.Limits.{IsPolygon}
use Rattle.stack_model.specs.Structure.{Structure}
use Rattle.stack_contact.specs.declared.types.Bearing.{Bearing}
use Rattle.stack_contact.specs.declared.types.Touch.{Touch}
use Rattle.stack_contact.specs.declared.sweeping.Pair.{Pair}
use Rattle.stack_contact.specs.ContactLists.{corners_of, IsPair, PairBefore}
use Rattle.stack_contact.specs.Found.{AreFound, AreAllFound}
use Rattle.stack_contact.specs.NearPairs.{AreFar, pair, AreNearPairs, IsOrdered}
use Rattle.stack_contact.proofs.FoundSteps.{skipped, before-next, later, start-found, all-found}

same-before : (a b : ℕ) → PairBefore a b a b → ⊥
same-before a b h = grind arith

before-after : (a b c d : ℕ) → PairBefore a b c d → PairBefore c d a b → ⊥
before-after a b c d h k = grind arith

chain : (a b c d e f : ℕ) → PairBefore a b c d → PairBefore c d e f → PairBefore a b e f
chain a b c d e f h k = grind arith

compare : (a b : ℕ) → (a < b) ⊎ ((b < a) ⊎ (a ≡ b))
compare a b = grind arith

past-end : (ps : List Pair) (n : ℕ) (d : Pair) → length ps ≤ n → get_or ps n d ≡ d
past-end [] n d l = refl
past-end (p ∷ ps) zero d l = absurd (omega arith)
past-end (p ∷ ps) (suc n) d l = past-end ps n d (omega arith)

module _ (s : Structure) (ps : List Pair) where
  -- pair n, and past the last one a place behind all pairs
  abbrev pub place_at : ℕ → Pair
  place_at n = get_or ps n (record { first = length s.bodies; second = 0 })

  -- all pairs before the n-th of the list are done
  abbrev pub AreFoundTo : ℕ → List Bearing → List Touch → Type 0
  AreFoundTo n zs ts = AreFound s (place_at n).first (place_at n).second zs ts

  -- the same, where pair n is read with any default
  pub found-at : (n : ℕ) (d : Pair) → n < length ps → (zs : List Bearing) (ts : List Touch) → AreFoundTo n zs ts
      → AreFound s (get_or ps n d).first (get_or ps n d).second zs ts
  found-at n d l zs ts h = subst (λ (p : Pair). AreFound s p.first p.second zs ts)
      (get_or_default ps n (record { first = length s.bodies; second = 0 }) d l) h

  module _ (polygons : (i : ℕ) → i < length s.bodies → IsPolygon (corners_of s i)) (near : AreNearPairs s ps)
      (ordered : IsOrdered ps) where
    -- a pair before the n-th one stands earlier in the list, or has nothing in common
    earlier : (n a b : ℕ) → IsPair s a b → PairBefore a b (place_at n).first (place_at n).second
        → ((q : ℕ) × ((q < n) × (q < length ps) × (place_at q ≡ pair a b))) ⊎ AreFar s a b
    earlier n a b p before = elim (near.all a b p) [ inl f ↦ inr f | inr c ↦ listed c.0 c.1 c.2 ]
      where
        listed : (q : ℕ) → q < length ps → get_or ps q (pair a b) ≡ pair a b
            → ((q : ℕ) × ((q < n) × (q < length ps) × (place_at q ≡ pair a b))) ⊎ AreFar s a b
        listed q l e = go (compare q n)
          where
            here : place_at q ≡ pair a b
            here = get_or_default ps q _ (pair a b) l ∙ e

            go : (q < n) ⊎ ((n < q) ⊎ (q ≡ n))
                → ((q : ℕ) × ((q < n) × (q < length ps) × (place_at q ≡ pair a b))) ⊎ AreFar s a b
            go (inl m) = inl (q, (m, l, here))
            go (inr (inl m)) = absurd (before-after a b (place_at n).first (place_at n).second before
                (subst (λ (p : Pair). PairBefore (place_at n).first (place_at n).second p.first p.second) here
                (ordered n q (record { first = length s.bodies; second = 0 }) m l)))
            go (inr (inr m)) = absurd (same-before a b (subst (λ (p : Pair). PairBefore a b p.first p.second) here
                (subst (λ n. PairBefore a b (place_at n).first (place_at n).second) (sym m) before)))

    pub start-to : AreFoundTo 0 [] []
    start-to = skipped s polygons 0 1 (place_at 0).first (place_at 0).second
        (λ a b p m. absurd (none a b p m))
        (λ a b p m. elim (earlier 0 a b p m) [
          | inl r ↦ let l = r.1.0 in absurd (omega arith)
          | inr f ↦ inr f
        ]) [] [] (start-found s)
      where
        none : (a b : ℕ) → IsPair s a b → PairBefore a b 0 1 → ⊥
        none a b p (inl l) = omega arith
        none a b p (inr (e, l)) = let o = p.in_order in omega arith

    pub is-pair : (n : ℕ) (d : Pair) → n < length ps → IsPair s (get_or ps n d).first (get_or ps n d).second
    is-pair n d l = All-get_or (λ (p : Pair). IsPair s p.first p.second) ps n d l near.pairs

    below-all : (n : ℕ) → n < length ps → (place_at n).first < length s.bodies
    below-all n l = under (is-pair n (record { first = length s.bodies; second = 0 }) l)
      where
        under : {i j : ℕ} → IsPair s i j → i < length s.bodies
        under p = let o = p.in_order in let w = p.is_body in omega arith

    rises : (n : ℕ) → n < length ps → (n + 1 < length ps) ⊎ (length ps ≤ n + 1)
        → PairBefore (place_at n).first (place_at n).second (place_at (n + 1)).first (place_at (n + 1)).second
    rises n l (inl m) = ordered n (n + 1) (record { first = length s.bodies; second = 0 }) (omega arith) m
    rises n l (inr m) = subst (λ (p : Pair). PairBefore (place_at n).first (place_at n).second p.first p.second)
        (sym (past-end ps (n + 1) _ m))
        (inl (below-all n l))

    or-past : (n m : ℕ) → (n < m) ⊎ (m ≤ n)
    or-past n m = grind arith

    pub next-to : (n : ℕ) → n < length ps → (zs : List Bearing) (ts : List Touch)
        → (d : Pair) → AreFound s (get_or ps n d).first (suc (get_or ps n d).second) zs ts → AreFoundTo (n + 1) zs ts
    next-to n l zs ts d found = skipped s polygons (place_at n).first (suc (place_at n).second)
        (place_at (n + 1)).first (place_at (n + 1)).second there back zs ts
        (subst (λ (p : Pair). AreFound s p.first (suc p.second) zs ts) (get_or_default ps n d _ l) found)
      where
        rise : PairBefore (place_at n).first (place_at n).second (place_at (n + 1)).first (place_at (n + 1)).second
        rise = rises n l (or-past (n + 1) (length ps))

        there : (a b : ℕ) → IsPair s a b → PairBefore a b (place_at n).first (suc (place_at n).second)
            → PairBefore a b (place_at (n + 1)).first (place_at (n + 1)).second
        there a b p m = elim (before-next a b (place_at n).first (place_at n).second m) [
          | inl g ↦ chain a b (place_at n).first (place_at n).second (place_at (n + 1)).first
              (place_at (n + 1)).second g rise
          | inr g ↦ subst₂ (λ a b. PairBefore a b (place_at (n + 1)).first (place_at (n + 1)).second)
              (sym g.0) (sym g.1) rise
        ]

        back : (a b : ℕ) → IsPair s a b → PairBefore a b (place_at (n + 1)).first (place_at (n + 1)).second
            → PairBefore a b (place_at n).first (suc (place_at n).second) ⊎ AreFar s a b
        back a b p m = elim (earlier (n + 1) a b p m) [
          | inr f ↦ inr f
          | inl r ↦ inl (done r.0 r.1.0 r.1.2 (compare r.0 n))
        ]
          where
            done : (q : ℕ) → q < n + 1 → place_at q ≡ pair a b → (q < n) ⊎ ((n < q) ⊎ (q ≡ n))
                → PairBefore a b (place_at n).first (suc (place_at n).second)
            done q k e (inl g) = later a b (place_at n).first (place_at n).second
                (subst (λ (p : Pair). PairBefore p.first p.second (place_at n).first (place_at n).second) e
                (ordered q n (record { first = length s.bodies; second = 0 }) g l))
            done q k e (inr (inl g)) = absurd (omega arith)
            done q k e (inr (inr g)) = subst (λ n. PairBefore a b (place_at n).first (suc (place_at n).second)) g
                (subst (λ (p : Pair). PairBefore a b p.first (suc p.second)) (sym e) (inr (refl, omega arith)))

    pub end-to : (n : ℕ) → length ps ≤ n → (zs : List Bearing) (ts : List Touch) → AreFoundTo n zs ts
        → AreAllFound s zs ts
    end-to n l zs ts h = all-found s (length s.bodies) 0 (length s.bodies) refl (omega arith) zs ts
        (subst (λ (p : Pair). AreFound s p.first p.second zs ts) (past-end ps n _ l) h)
