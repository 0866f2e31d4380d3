-- Lists that rise and have the same items are the same.
use Rattle.std.proofs.Common.{arith, Some, slice_get}
use mathlib.Core.Path.{◌≡◌, refl, sym, ◌∙◌, subst}
use mathlib.Core.Logic.{◌⊎◌, inl, inr}
use mathlib.Core.List.{List, [], ◌∷◌}
use Prim.Native.Nat.{ℕ, zero, suc}
use lib.IntN.{ℤ}
use Rattle.std.proofs.lemmas.Option.{same_Some}
use Rattle.std.proofs.lemmas.Int.{ints}
use Rattle.stack_algebra.specs.IntegerOrder.{◌≺◌}
use Rattle.stack_polygon.specs.declared.point.Point.{Point}
use Rattle.stack_contact.specs.ContactLists.{PairBefore, ComesBefore}
use Rattle.stack_contact.proofs.Appended.{Rises}

pub never-both-pairs : (i j k l : ℕ) → PairBefore i j k l → PairBefore k l i j → ⊥
never-both-pairs i j k l p q = grind arith

not-itself : (i j k l : ℕ) → PairBefore i j k l → i ≡ k → j ≡ l → ⊥
not-itself i j k l p e f = grind arith

never-both-points : (a b c d : ℤ) → (a ≺ c) ⊎ ((a ≡ c) × (b ≺ d)) → (c ≺ a) ⊎ ((c ≡ a) × (d ≺ b)) → ⊥
never-both-points a b c d p q = grind (arith, ints)

never-both : (i j : ℕ) (a : Point) (k l : ℕ) (b : Point) → ComesBefore i j a k l b → ComesBefore k l b i j a → ⊥
never-both i j a k l b (inl p) (inl q) = never-both-pairs i j k l p q
never-both i j a k l b (inl p) (inr (e, f, q)) = not-itself i j k l p (sym e) (sym f)
never-both i j a k l b (inr (e, f, p)) (inl q) = not-itself k l i j q (sym e) (sym f)
never-both i j a k l b (inr (e, f, p)) (inr (g, h, q)) = never-both-points a.x a.y b.x b.y p q

module _ {A : Type 0} (first second : A → ℕ) (at : A → Point) where
  abbrev pub Within : List A → List A → Type 0
  Within xs ys = (k : ℕ) (z : A) → slice_get xs k ≡ Some z → (m : ℕ) × (slice_get ys m ≡ Some z)

  abbrev Before : A → A → Type 0
  Before y z = ComesBefore (first y) (second y) (at y) (first z) (second z) (at z)

  never-itself : (y z : A) → y ≡ z → Before y z → ⊥
  never-itself y z e h = let r = subst (λ w. Before y w) (sym e) h in
      never-both (first y) (second y) (at y) (first y) (second y) (at y) r r

  one-head : (x : A) (xs : List A) (y : A) (ys : List A) → Rises first second at (x ∷ xs)
      → Rises first second at (y ∷ ys) → ((m : ℕ) × (slice_get (y ∷ ys) m ≡ Some x))
      → ((n : ℕ) × (slice_get (x ∷ xs) n ≡ Some y)) → x ≡ y
  one-head x xs y ys hx hy (zero, p) q = sym (same_Some _ _ p)
  one-head x xs y ys hx hy (suc m, p) (zero, q) = same_Some _ _ q
  one-head x xs y ys hx hy (suc m, p) (suc n, q) = absurd (never-both (first x) (second x) (at x) (first y)
      (second y) (at y) (hx 0 (suc n) x y (omega arith) refl q) (hy 0 (suc m) y x (omega arith) refl p))

  rest : (x : A) (xs : List A) (y : A) (ys : List A) → x ≡ y → Rises first second at (x ∷ xs)
      → Within (x ∷ xs) (y ∷ ys) → Within xs ys
  rest x xs y ys e hx f k z h = go (f (suc k) z h)
    where
      go : (m : ℕ) × (slice_get (y ∷ ys) m ≡ Some z) → (m : ℕ) × (slice_get ys m ≡ Some z)
      go (zero, p) = absurd (never-itself x z (e ∙ same_Some y z p) (hx 0 (suc k) x z (omega arith) refl h))
      go (suc m, p) = (m, p)

  later-rises : (x : A) (xs : List A) → Rises first second at (x ∷ xs) → Rises first second at xs
  later-rises x xs h m n y z l p q = h (suc m) (suc n) y z (omega arith) p q

  pub same-list : (xs ys : List A) → Rises first second at xs → Rises first second at ys → Within xs ys
      → Within ys xs → xs ≡ ys
  same-list [] [] hx hy f g = refl
  same-list [] (y ∷ ys) hx hy f g = let r = (g 0 y refl).1 in absurd (cc r)
  same-list (x ∷ xs) [] hx hy f g = let r = (f 0 x refl).1 in absurd (cc r)
  same-list (x ∷ xs) (y ∷ ys) hx hy f g =
      let e = one-head x xs y ys hx hy (f 0 x refl) (g 0 y refl) in
      let t = same-list xs ys (later-rises x xs hx) (later-rises y ys hy) (rest x xs y ys e hx f)
      (rest y ys x xs (sym e) hy g) in
      (λ i. e i ∷ t i)
