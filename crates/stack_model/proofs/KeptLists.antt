-- A loop that keeps items, and how many they are.
use Rattle.std.proofs.Common.{◌≡◌, refl, sym, ap, ◌∙◌, ℕ, ◌+◌, ◌<◌, ◌≤◌, Bool, true, false, List, [], ◌∷◌, ◌++◌, length}
use Rattle.std.proofs.Common.{get_or, take, arith, cond, count_by}
use Rattle.std.proofs.lemmas.List.{take_more, length-take-le}
use Rattle.std.specs.Bool.{if◌then◌else◌}
use Rattle.std.proofs.lemmas.List.Sums.{sum_by-cons}
use Rattle.stack_model.specs.Keeping.{later, kept}

module _ {A : Type 0} where
  -- what is kept of a list with one item more
  kept_last : (keeps : ℕ → Bool) (xs : List A) (x : A)
      → kept keeps (xs ++ x ∷ []) ≡ kept keeps xs ++ (if keeps (length xs) then x ∷ [] else [])
  kept_last keeps [] x = refl
  kept_last keeps (y ∷ xs) x = go (keeps 0) (kept_last (later keeps) xs x)
    where
      go : (t : Bool) → kept (later keeps) (xs ++ x ∷ [])
          ≡ kept (later keeps) xs ++ (if keeps (length (y ∷ xs)) then x ∷ [] else [])
          → (if t then y ∷ kept (later keeps) (xs ++ x ∷ []) else kept (later keeps) (xs ++ x ∷ []))
          ≡ (if t then y ∷ kept (later keeps) xs else kept (later keeps) xs)
          ++ (if keeps (length (y ∷ xs)) then x ∷ [] else [])
      go true h = ap (λ ys. y ∷ ys) h
      go false h = h

  -- a loop that keeps items goes on by one
  pub kept_more : (keeps : ℕ → Bool) (vs next xs : List A) (i : ℕ) (x d : A)
      → next ≡ vs ++ (if keeps i then x ∷ [] else []) → x ≡ get_or xs i d → i < length xs
      → vs ≡ kept keeps (take i xs) → next ≡ kept keeps (take (i + 1) xs)
  kept_more keeps vs next xs i x d h is lt before =
      let count : length (take i xs) ≡ i = length-take-le i xs (omega (arith, lt)) in
      h ∙ (λ k. before k ++ (if keeps (sym count k) then x ∷ [] else [])) ∙ sym (kept_last keeps (take i xs) x)
      ∙ ap (λ y. kept keeps (take i xs ++ y ∷ [])) is ∙ sym (ap (kept keeps) (take_more xs i d lt))

  -- no more are kept than there are
  pub kept_few : (keeps : ℕ → Bool) (xs : List A) → length (kept keeps xs) ≤ length xs
  kept_few keeps [] = omega arith
  kept_few keeps (x ∷ xs) = go (keeps 0) (kept_few (later keeps) xs)
    where
      go : (t : Bool) → length (kept (later keeps) xs) ≤ length xs
          → length (if t then x ∷ kept (later keeps) xs else kept (later keeps) xs) ≤ length (x ∷ xs)
      go true h = omega (arith, h)
      go false h = omega (arith, h)

  -- of the items that pass a test no more are kept than there are
  pub kept_counted : (p : A → Bool) (keeps : ℕ → Bool) (xs : List A)
      → count_by p (kept keeps xs) ≤ count_by p xs
  kept_counted p keeps [] = omega arith
  kept_counted p keeps (x ∷ xs) =
      rw (sum_by-cons (λ x. cond (p x) 1 0) x xs) (go (keeps 0) (kept_counted p (later keeps) xs))
    where
      go : (t : Bool) → count_by p (kept (later keeps) xs) ≤ count_by p xs
          → count_by p (if t then x ∷ kept (later keeps) xs else kept (later keeps) xs)
          ≤ cond (p x) 1 0 + count_by p xs
      go true h = rw (sum_by-cons (λ x. cond (p x) 1 0) x (kept (later keeps) xs)) (omega (arith, h))
      go false h = omega (arith, h)
