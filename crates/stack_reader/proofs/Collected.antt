-- What a loop has collected, followed by what the items that are left give.
use Rattle.std.proofs.Common.{◌≡◌, ℕ, ◌+◌, ◌<◌, ◌≤◌, List, [], ◌∷◌, ◌++◌, length, get_or, drop}
use Rattle.std.proofs.Common.{Result, Ok, Err, map, refl, sym, ap, ◌∙◌, append_assoc, add-one, drop-cons}
use Rattle.std.proofs.lemmas.List.{append-nil, map_push}
use Rattle.std.proofs.Math.ListN.{drop_of_length-le}
use Rattle.toml.specs.declared.value.Value.{Value}
use Rattle.toml.specs.Data.{Data, item}
use Rattle.toml.specs.View.{view, items_view}
use Rattle.stack_algebra.specs.Steps.{◌>>=◌}
use Rattle.stack_reader.specs.declared.errors.ReadError.{ReadError}
use Rattle.stack_reader.specs.declared.errors.ReadError.TheVariants.{Model, Memory}
use Rattle.stack_reader.specs.Gives.{FailsRead}
use Rattle.stack_reader.specs.Shape.{each_of}

abbrev pub before : {A : Type 0} → List A → Result (List A) ReadError → Result (List A) ReadError
before front rest = rest >>= λ xs. Ok (front ++ xs)

-- the items from one on
pub items_from : (vs : List Value) (i : ℕ) (v : Value) → i < length vs → v ≡ get_or vs i v
    → items_view (drop i vs) ≡ item (view v) (items_view (drop (i + 1) vs))
items_from vs i v h is =
    let one : items_view (drop i vs) ≡ item (view (get_or vs i v)) (items_view (drop (i + 1) vs)) =
    rw (add-one, drop-cons vs i v) refl in
    rw (← is) at one

regroup : {A : Type 0} (front : List A) (x : A) (read : Result (List A) ReadError)
    → before front (read >>= λ xs. Ok (x ∷ xs)) ≡ before (front ++ x ∷ []) read
regroup {A} front x (Ok xs) = ap (λ (ys : List A). Ok ys) (simp append_assoc)
regroup front x (Err e) = refl

pub goes_on : {A V : Type 0} (raw : V → A) (f : ℕ → Data → Result A ReadError) (found next : List V)
    (vs : List Value) (i : ℕ) (v : Value) (x : V) (total : Result (List A) ReadError)
    → next ≡ found ++ x ∷ [] → i < length vs → v ≡ get_or vs i v
    → f i (view v) ≡ Ok (raw x) → before (map raw found) (each_of f i (items_view (drop i vs))) ≡ total
    → before (map raw next) (each_of f (i + 1) (items_view (drop (i + 1) vs))) ≡ total
unfolding each_of
goes_on raw f found next vs i v x total more lt is h so_far =
    let pushed : map raw next ≡ map raw found ++ raw x ∷ [] = ap (map raw) more ∙ map_push raw found x in
    let one : before (map raw found) (each_of f i (items_view (drop i vs))) ≡ before (map raw next)
    (each_of f (i + 1) (items_view (drop (i + 1) vs))) =
    rw (items_from vs i v lt is, h, pushed)
    (regroup (map raw found) (raw x) (each_of f (i + 1) (items_view (drop (i + 1) vs)))) in
    sym one ∙ so_far

-- a refusal that is handed on
pub handed_on : {Y Z : Type 0} (e : ReadError) (read : Result Y ReadError) (total : Result Z ReadError)
    → FailsRead e read
    → (read ≡ Err e → total ≡ Err e) → FailsRead e total
handed_on Memory read total h f = tt
handed_on (Model e) read total h f = (f h.0, h.1)
handed_on e read total h f = f h

pub ends : {A : Type 0} (f : ℕ → Data → Result A ReadError) (e : ReadError) (front : List A)
    (vs : List Value) (i : ℕ) (v : Value) (total : Result (List A) ReadError)
    → i < length vs → v ≡ get_or vs i v
    → FailsRead e (f i (view v)) → before front (each_of f i (items_view (drop i vs))) ≡ total → FailsRead e total
unfolding each_of
ends f e front vs i v total lt is h so_far = handed_on e (f i (view v)) total h (λ here.
    let one : before front (each_of f i (items_view (drop i vs))) ≡ Err e =
    rw (items_from vs i v lt is, here) refl in
    sym so_far ∙ one)

pub is_done : {A : Type 0} (f : ℕ → Data → Result A ReadError) (front : List A) (vs : List Value) (i : ℕ)
    (total : Result (List A) ReadError)
    → length vs ≤ i
    → before front (each_of f i (items_view (drop i vs))) ≡ total → total ≡ Ok front
unfolding each_of
is_done {A} f front vs i total le so_far =
    let one : before front (each_of f i (items_view (drop i vs))) ≡ Ok front =
    rw (drop_of_length-le vs le) (ap (λ (xs : List A). Ok xs) (append-nil front)) in
    sym so_far ∙ one
