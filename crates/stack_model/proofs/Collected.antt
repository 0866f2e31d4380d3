-- What a loop has collected, followed by what the items that are left give.
use Rattle.std.proofs.Common.{◌≡◌, ℕ, ◌+◌, ◌<◌, List, [], ◌∷◌, ◌++◌, length, get_or, drop, Option, Some, None, map}
use Rattle.std.proofs.Common.{option_map, refl, sym, ap, ◌∙◌, append_assoc, add-one, drop-cons}
use Rattle.std.proofs.lemmas.List.{append-nil}
use Rattle.stack_model.specs.Limits.{with_first}

abbrev pub after : {A : Type 0} → List A → Option (List A) → Option (List A)
after front rest = option_map (λ xs. front ++ xs) rest

-- one more is there, and what is left gives the rest
pub collects : {A : Type 0} (front next : List A) (x : A) (rest read total : Option (List A)) → next ≡ front ++ x ∷ []
    → read ≡ with_first (Some x) rest → after front read ≡ total → after next rest ≡ total
collects front next x None read total more is so_far = sym (ap (after front) is) ∙ so_far
collects {A} front next x (Some ys) read total more is so_far =
    (λ i. Some (more i ++ ys)) ∙ ap (λ (xs : List A). Some xs) (append_assoc front (x ∷ []) ys)
    ∙ sym (ap (after front) is) ∙ so_far

-- one is missing
pub stops : {A : Type 0} (front : List A) (read total : Option (List A)) → read ≡ None → after front read ≡ total
    → None ≡ total
stops front read total is so_far = sym (ap (after front) is) ∙ so_far

-- none is left
pub collected : {A : Type 0} (front : List A) (read total : Option (List A)) → read ≡ Some [] → after front read ≡ total
    → Some front ≡ total
collected {A} front read total is so_far =
    ap (λ (xs : List A). Some xs) (sym (append-nil front)) ∙ sym (ap (after front) is) ∙ so_far

-- what the items from one on are read as
pub mapped_from : {A B : Type 0} (f : A → B) (xs : List A) (i : ℕ) (x : A) → i < length xs → x ≡ get_or xs i x
    → map f (drop i xs) ≡ f x ∷ map f (drop (i + 1) xs)
mapped_from f xs i x h is =
    let one : map f (drop i xs) ≡ f (get_or xs i x) ∷ map f (drop (i + 1) xs) =
    rw (add-one, drop-cons xs i x) refl in
    rw (← is) at one
