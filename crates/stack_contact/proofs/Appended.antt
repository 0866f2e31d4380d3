-- Items of a list that another one is appended to.
use Rattle.std.proofs.Common.{arith, ◌++◌, Some, slice_get}
use mathlib.Core.Path.{◌≡◌, sym, subst}
use mathlib.Core.Logic.{◌⊎◌, inl, inr}
use mathlib.Core.List.{List, [], ◌∷◌}
use Prim.Native.Nat.{ℕ, zero, suc, ◌+◌, ◌<◌}
use lib.ListN.{length}
use Rattle.std.proofs.lemmas.Option.{slice_get_within}
use Rattle.stack_polygon.specs.declared.point.Point.{Point}
use Rattle.stack_contact.specs.ContactLists.{PairBefore, ComesBefore}

module _ {A : Type 0} where
  pub get-left : (xs ys : List A) (k : ℕ) (z : A) → slice_get xs k ≡ Some z → slice_get (xs ++ ys) k ≡ Some z
  get-left [] ys k z e = absurd (cc e)
  get-left (x ∷ xs) ys zero z e = e
  get-left (x ∷ xs) ys (suc k) z e = get-left xs ys k z e

  pub get-right : (xs ys : List A) (m : ℕ) (z : A) → slice_get ys m ≡ Some z
      → (n : ℕ) × (slice_get (xs ++ ys) n ≡ Some z)
  get-right [] ys m z e = (m, e)
  get-right (x ∷ xs) ys m z e = let r = get-right xs ys m z e in (suc r.0, r.1)

  -- an item is one of the first list, or one of the second
  pub get-either : (xs ys : List A) (k : ℕ) (z : A) → slice_get (xs ++ ys) k ≡ Some z
      → (slice_get xs k ≡ Some z) ⊎ ((m : ℕ) × ((k ≡ length xs + m) × (slice_get ys m ≡ Some z)))
  get-either [] ys k z e = inr (k, (omega arith, e))
  get-either (x ∷ xs) ys zero z e = inl e
  get-either (x ∷ xs) ys (suc k) z e = elim (get-either xs ys k z e) [
    | inl h ↦ inl h
    | inr h ↦ inr (h.0, (let e = h.1.0 in omega arith, h.1.1))
  ]

module _ {A : Type 0} (first second : A → ℕ) (at : A → Point) where
  abbrev pub Rises : List A → Type 0
  Rises zs = (m n : ℕ) (y z : A) → m < n → slice_get zs m ≡ Some y → slice_get zs n ≡ Some z
      → ComesBefore (first y) (second y) (at y) (first z) (second z) (at z)

  -- items of the pair i, j follow those of the pairs before it
  pub appended-rises : (xs ys : List A) (i j : ℕ) → Rises xs → Rises ys
      → ((n : ℕ) (z : A) → slice_get xs n ≡ Some z → PairBefore (first z) (second z) i j)
      → ((n : ℕ) (z : A) → slice_get ys n ≡ Some z → (first z ≡ i) × (second z ≡ j)) → Rises (xs ++ ys)
  appended-rises xs ys i j hx hy bx by m n y z l p q = go (get-either xs ys m y p) (get-either xs ys n z q)
    where
      go : (slice_get xs m ≡ Some y) ⊎ ((k : ℕ) × ((m ≡ length xs + k) × (slice_get ys k ≡ Some y)))
          → (slice_get xs n ≡ Some z) ⊎ ((k : ℕ) × ((n ≡ length xs + k) × (slice_get ys k ≡ Some z)))
          → ComesBefore (first y) (second y) (at y) (first z) (second z) (at z)
      go (inl a) (inl b) = hx m n y z l a b
      go (inl a) (inr b) = let w = by b.0 z b.1.1 in
          inl (subst (λ k. PairBefore (first y) (second y) k (second z)) (sym w.0)
          (subst (λ k. PairBefore (first y) (second y) i k) (sym w.1) (bx m y a)))
      go (inr a) (inl b) = let w = slice_get_within xs n z b in let e = a.1.0 in absurd (omega arith)
      go (inr a) (inr b) = let e = a.1.0 in let f = b.1.0 in hy a.0 b.0 y z (omega arith) a.1.1 b.1.1
