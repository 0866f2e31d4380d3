-- A loop that does one step after the other.
use Rattle.std.proofs.Common.{◌≡◌, ℕ, ◌+◌, ◌<◌, ◌≤◌, List, ◌∷◌, length, get_or, drop, Result, Ok, Err, refl, sym, ◌∙◌}
use Rattle.std.proofs.Common.{add-one, drop-cons}
use Rattle.std.proofs.Math.ListN.{drop_of_length-le}
use Rattle.stack_algebra.specs.Steps.{steps}

pub step_on : {A X E : Type 0} (f : ℕ → A → X → Result A E) (xs : List X) (i : ℕ) (a b : A) (d : X)
    (total : Result A E) → i < length xs → f i a (get_or xs i d) ≡ Ok b
    → steps f i a (drop i xs) ≡ total → steps f (i + 1) b (drop (i + 1) xs) ≡ total
step_on f xs i a b d total lt h so_far =
    let rest : drop i xs ≡ get_or xs i d ∷ drop (i + 1) xs = rw (add-one, drop-cons xs i d) refl in
    let one : steps f i a (drop i xs) ≡ steps f (i + 1) b (drop (i + 1) xs) = rw (rest, h) refl in
    sym one ∙ so_far

pub step_out : {A X E : Type 0} (f : ℕ → A → X → Result A E) (xs : List X) (i : ℕ) (a : A) (d : X) (e : E)
    (total : Result A E) → i < length xs → f i a (get_or xs i d) ≡ Err e
    → steps f i a (drop i xs) ≡ total → Err e ≡ total
step_out f xs i a d e total lt h so_far =
    let one : steps f i a (drop i xs) ≡ Err e = rw (drop-cons xs i d, h) refl in
    sym one ∙ so_far

pub steps_done : {A X E : Type 0} (f : ℕ → A → X → Result A E) (xs : List X) (i : ℕ) (a : A)
    (total : Result A E) → length xs ≤ i → steps f i a (drop i xs) ≡ total → Ok a ≡ total
steps_done f xs i a total le so_far =
    let one : steps f i a (drop i xs) ≡ Ok a = rw (drop_of_length-le xs le) refl in
    sym one ∙ so_far
