-- A loop that picks items, one after the other, and the number among those that are kept.
use Rattle.std.proofs.Common.{◌≡◌, refl, sym, ap, ◌∙◌, ℕ, zero, suc, ◌+◌, ◌<◌, Bool, true, false}
use Rattle.std.proofs.Common.{List, [], ◌∷◌, ◌++◌, length, get_or, take, arith}
use Rattle.std.proofs.lemmas.List.{take_more}
use Rattle.std.specs.Bool.{if◌then◌else◌}
use Rattle.stack_model.specs.Keeping.{later, kept_before, picked}

-- one number more before
pub kept_step : (keeps : ℕ → Bool) (j : ℕ)
    → kept_before keeps (suc j) ≡ (if keeps j then suc (kept_before keeps j) else kept_before keeps j)
kept_step keeps zero = refl
kept_step keeps (suc j) = go (keeps 0) (keeps (suc j)) (kept_step (later keeps) j)
  where
    go : (t u : Bool) → kept_before (later keeps) (suc j)
        ≡ (if u then suc (kept_before (later keeps) j) else kept_before (later keeps) j)
        → (if t then suc (kept_before (later keeps) (suc j)) else kept_before (later keeps) (suc j))
        ≡ (if u then suc (if t then suc (kept_before (later keeps) j) else kept_before (later keeps) j)
        else (if t then suc (kept_before (later keeps) j) else kept_before (later keeps) j))
    go true true h = ap suc h
    go true false h = ap suc h
    go false true h = h
    go false false h = h

next_number : (j : ℕ) → suc j ≡ j + 1
next_number j = omega arith

-- a number that is kept counts
pub kept_on : (f : ℕ → Bool) (j n m : ℕ) → f j ≡ true → n ≡ kept_before f j → m ≡ n + 1 → m ≡ kept_before f (j + 1)
kept_on f j n m t h e =
    let s : kept_before f (suc j) ≡ suc (kept_before f j) =
    kept_step f j ∙ ap (λ b. if b then suc (kept_before f j) else kept_before f j) t in
    e ∙ (sym (next_number n) ∙ (ap suc h ∙ (sym s ∙ ap (kept_before f) (next_number j))))

-- any other doesn't
pub kept_off : (f : ℕ → Bool) (j n m : ℕ) → f j ≡ false → n ≡ kept_before f j → m ≡ n → m ≡ kept_before f (j + 1)
kept_off f j n m t h e =
    let s : kept_before f (suc j) ≡ kept_before f j =
    kept_step f j ∙ ap (λ b. if b then suc (kept_before f j) else kept_before f j) t in
    e ∙ (h ∙ (sym s ∙ ap (kept_before f) (next_number j)))

module _ {A : Type 0} (keeps : A → Bool) (changed : A → A) where
  -- what is picked of a list with one item more
  picked_last : (xs : List A) (x : A) → picked keeps changed (xs ++ x ∷ [])
      ≡ picked keeps changed xs ++ (if keeps x then changed x ∷ [] else [])
  picked_last [] x = refl
  picked_last (y ∷ xs) x = go (keeps y) (picked_last xs x)
    where
      go : (t : Bool) → picked keeps changed (xs ++ x ∷ [])
          ≡ picked keeps changed xs ++ (if keeps x then changed x ∷ [] else [])
          → (if t then changed y ∷ picked keeps changed (xs ++ x ∷ []) else picked keeps changed (xs ++ x ∷ []))
          ≡ (if t then changed y ∷ picked keeps changed xs else picked keeps changed xs)
          ++ (if keeps x then changed x ∷ [] else [])
      go true h = ap (λ ys. changed y ∷ ys) h
      go false h = h

  pub picked_more : (vs next xs : List A) (i : ℕ) (x d : A) → next ≡ vs ++ (if keeps x then changed x ∷ [] else [])
      → x ≡ get_or xs i d → i < length xs → vs ≡ picked keeps changed (take i xs)
      → next ≡ picked keeps changed (take (i + 1) xs)
  picked_more vs next xs i x d h is lt before =
      h ∙ (ap (λ ys. ys ++ (if keeps x then changed x ∷ [] else [])) before
      ∙ (sym (picked_last (take i xs) x) ∙ (ap (λ y. picked keeps changed (take i xs ++ y ∷ [])) is
      ∙ sym (ap (picked keeps changed) (take_more xs i d lt)))))
