-- Names as texts and as lists of bytes.
use Rattle.std.proofs.Common.{◌≡◌, ℕ, ◌+◌, Bool, not, List, [], ◌∷◌, map, length, Some, None, refl, sym, ap}
use Rattle.std.proofs.Common.{◌∙◌, position, cond, ◌||◌, nat_lt, string_bytes, String, Global}
use Rattle.std.specs.List.{list_any, prefix_len}
use Rattle.std.specs.Str.{bytes_eq}
use Rattle.std.proofs.lemmas.List.{length-map}
use Rattle.stack_model.specs.Content.{number_of, is_new}

prefix-map : {X Y : Type 0} (f : X → Y) (p : Y → Bool) (xs : List X)
    → prefix_len (λ x. p (f x)) xs ≡ prefix_len p (map f xs)
prefix-map f p [] = refl
prefix-map f p (x ∷ xs) = ap (λ n. cond (p (f x)) (1 + n) 0) (prefix-map f p xs)

position-map : {X Y : Type 0} (f : X → Y) (p : Y → Bool) (xs : List X)
    → position (λ x. p (f x)) xs ≡ position p (map f xs)
position-map f p xs =
    let e = prefix-map f (λ y. not (p y)) xs in
    (λ i. cond (nat_lt (e i) (length xs)) (Some (e i)) None)
    ∙ ap (λ n. cond (nat_lt (prefix_len (λ y. not (p y)) (map f xs)) n)
    (Some (prefix_len (λ y. not (p y)) (map f xs))) None) (sym (length-map xs f))

any-map : {X Y : Type 0} (f : X → Y) (p : Y → Bool) (xs : List X)
    → list_any (λ x. p (f x)) xs ≡ list_any p (map f xs)
any-map f p [] = refl
any-map f p (x ∷ xs) = ap (λ b. p (f x) || b) (any-map f p xs)

pub number-named : (name : List ℕ) (names : List (List ℕ)) (keys : List (String Global))
    → map string_bytes keys ≡ names
    → position (λ k. bytes_eq name (string_bytes k)) keys ≡ number_of name names
number-named name names keys e = position-map string_bytes (bytes_eq name) keys ∙ ap (number_of name) e

pub new-named : (name : List ℕ) (names : List (List ℕ)) (keys : List (String Global))
    → map string_bytes keys ≡ names
    → not (list_any (λ k. bytes_eq name (string_bytes k)) keys) ≡ is_new name names
new-named name names keys e = ap not (any-map string_bytes (bytes_eq name) keys) ∙ ap (is_new name) e
