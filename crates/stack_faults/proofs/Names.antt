-- Names and flags of what is listed, against those of what was collected from it.
use Rattle.std.proofs.Common.{◌≡◌, refl, sym, ap, subst, ◌∙◌, ℕ, zero, suc, ◌+◌, ◌<◌, ◌≤◌, Bool, true, false, not, ◌||◌}
use Rattle.std.proofs.Common.{cond, List, [], ◌∷◌, ◌++◌, map, length, get_or, take, Some, None, arith, is_none, nat_lt}
use Rattle.std.proofs.Common.{nat_le, ◌==◌, count_by, find}
use Rattle.std.specs.List.{list_any, position_or_len}
use Rattle.std.specs.Str.{bytes_eq}
use Rattle.std.proofs.lemmas.Bool.{ltb-true, ltb-false, leb-true, leb-false, lt-ltb, le-ltb, eq-eqb, ne_eqb}
use Rattle.std.proofs.lemmas.List.{map-append, take_more, get_or-map, length-map}
use Rattle.std.proofs.lemmas.List.Folds.{fold-map}
use Rattle.stack_model.specs.Content.{is_new, number_of}
use Rattle.stack_model.proofs.Limited.{number_below, named}

pub not_not : (b : Bool) → not (not b) ≡ b
not_not true = refl
not_not false = refl

-- a number at its limit, and above it
pub at_limit : (n limit : ℕ) → n ≤ limit → (n == limit) ≡ not (nat_lt n limit)
at_limit n limit le = go (nat_lt n limit) refl
  where
    go : (b : Bool) → nat_lt n limit ≡ b → (n == limit) ≡ not b
    go true e = ne_eqb n limit (λ same. omega (arith, ltb-true n limit e, same))
    go false e = eq-eqb n limit (omega (arith, le, ltb-false n limit e))

pub over_limit : (n limit : ℕ) → nat_lt limit n ≡ not (nat_le n limit)
over_limit n limit = go (nat_le n limit) refl
  where
    go : (b : Bool) → nat_le n limit ≡ b → nat_lt limit n ≡ not b
    go true e = le-ltb limit n (leb-true n limit e)
    go false e = lt-ltb limit n (leb-false n limit e)

-- one more collected, as one more is listed
pub one_more : {X Y Z : Type 0} (f : X → Z) (g : Y → Z) (xs : List X) (x : X) (ys : List Y) (i : ℕ) (d : Y)
    → i < length ys → f x ≡ g (get_or ys i d) → map f xs ≡ map g (take i ys)
    → map f (xs ++ x ∷ []) ≡ map g (take (i + 1) ys)
one_more f g xs x ys i d l same h =
    map-append f xs (x ∷ []) ∙ (λ k. h k ++ same k ∷ [])
    ∙ sym (ap (map g) (take_more ys i d l) ∙ map-append g (take i ys) (get_or ys i d ∷ []))

pub count-map : {X Y : Type 0} (p : Y → Bool) (f : X → Y) (xs : List X)
    → count_by (λ x. p (f x)) xs ≡ count_by p (map f xs)
count-map p f xs = sym (fold-map (λ n y. n + cond (p y) 1 0) f 0 xs)

pub any-map : {X Y : Type 0} (p : Y → Bool) (f : X → Y) (xs : List X)
    → list_any p (map f xs) ≡ list_any (λ x. p (f x)) xs
any-map p f [] = refl
any-map p f (x ∷ xs) = ap (λ b. p (f x) || b) (any-map p f xs)

-- a name that stands among those listed isn't new
pub seen : {X : Type 0} (f : X → List ℕ) (name : List ℕ) (xs : List X) (names : List (List ℕ))
    → names ≡ map f xs → list_any (λ x. bytes_eq name (f x)) xs ≡ not (is_new name names)
seen f name xs names h = sym (any-map (bytes_eq name) f xs) ∙ ap (list_any (bytes_eq name)) (sym h)
    ∙ sym (not_not (list_any (bytes_eq name) names))

-- a position is there where some item passes
shift : (n m : ℕ) → nat_lt (1 + n) (suc m) ≡ nat_lt n m
shift n m = go (nat_lt n m) refl
  where
    go : (b : Bool) → nat_lt n m ≡ b → nat_lt (1 + n) (suc m) ≡ b
    go true e = lt-ltb (1 + n) (suc m) (omega (arith, ltb-true n m e))
    go false e = le-ltb (1 + n) (suc m) (omega (arith, ltb-false n m e))

within : {X : Type 0} (p : X → Bool) (xs : List X) → nat_lt (position_or_len p xs) (length xs) ≡ list_any p xs
within p [] = refl
within p (x ∷ xs) = go (p x) (within p xs)
  where
    go : (b : Bool) → nat_lt (position_or_len p xs) (length xs) ≡ list_any p xs
        → nat_lt (cond (not b) (1 + position_or_len p xs) 0) (suc (length xs)) ≡ (b || list_any p xs)
    go true h = lt-ltb 0 (suc (length xs)) (omega arith)
    go false h = shift (position_or_len p xs) (length xs) ∙ h

none_where : (b : Bool) (n : ℕ) → not b ≡ is_none (cond b (Some n) None)
none_where true n = refl
none_where false n = refl

pub lacking : {X : Type 0} (f : X → List ℕ) (name : List ℕ) (xs : List X) (names : List (List ℕ))
    → names ≡ map f xs → not (list_any (λ x. bytes_eq name (f x)) xs) ≡ is_none (number_of name names)
lacking f name xs names h =
    ap not (sym (any-map (bytes_eq name) f xs) ∙ ap (list_any (bytes_eq name)) (sym h)
    ∙ sym (within (bytes_eq name) names))
    ∙ none_where (nat_lt (position_or_len (bytes_eq name) names) (length names))
    (position_or_len (bytes_eq name) names)

-- the first item that passes
pub find_first : {X : Type 0} (p : X → Bool) (xs : List X) (n : ℕ) (d : X) → n < length xs
    → p (get_or xs n d) ≡ true → ((k : ℕ) → k < n → p (get_or xs k d) ≡ false) → find p xs ≡ Some (get_or xs n d)
find_first p [] n d l h b = absurd (omega (arith, l))
find_first p (x ∷ xs) zero d l h b = ap (λ t. cond t (Some x) (find p xs)) h
find_first p (x ∷ xs) (suc n) d l h b = ap (λ t. cond t (Some x) (find p xs)) (b 0 (omega arith))
    ∙ find_first p xs n d (omega (arith, l)) h (λ k m. b (suc k) (omega (arith, m)))

-- the item whose number is found has the name
pub found_named : {X : Type 0} (f : X → List ℕ) (name : List ℕ) (xs : List X) (n : ℕ) (d : X)
    → number_of name (map f xs) ≡ Some n → (n < length xs) × (f (get_or xs n d) ≡ name)
found_named f name xs n d e =
    let below : n < length xs = subst (λ m. n < m) (length-map xs f) (number_below name (map f xs) n e) in
    (below, sym (get_or-map f xs n d [] below) ∙ sym (named name (map f xs) n e))
