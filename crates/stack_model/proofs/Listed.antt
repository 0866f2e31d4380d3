-- A list each of whose items is taken after those before it is taken whole.
use Rattle.std.proofs.Common.{◌≡◌, ℕ, ◌+◌, ◌<◌, List, [], ◌∷◌, ◌++◌, map, length, get_or}
use Rattle.std.proofs.Common.{Result, Ok, refl, sym, ap, ◌∙◌, subst, arith, append_assoc}
use Rattle.std.proofs.lemmas.List.{append-nil, map-append}
use Rattle.std.proofs.Math.Seq.{get_or-append_seam}
use Rattle.stack_algebra.specs.Steps.{◌>>=◌, steps}
use Rattle.stack_model.specs.declared.errors.ModelError.{ModelError}

module _ {X P : Type 0} (f : ℕ → List X → P → Result (List X) ModelError) (back : X → P) (xs : List X) where
  -- each item of the list is taken after those before it
  abbrev pub EachTaken : Type 0
  EachTaken = (i : ℕ) (before : List X) (x : X) (after : List X) → before ++ x ∷ after ≡ xs
      → f i before (back x) ≡ Ok (before ++ x ∷ [])

  runs : EachTaken → (i : ℕ) (before after : List X) → before ++ after ≡ xs
      → steps f i before (map back after) ≡ Ok xs
  runs each i before [] e = ap Ok (sym (append-nil before) ∙ e)
  runs each i before (x ∷ after) e =
      let grouped : (before ++ x ∷ []) ++ after ≡ before ++ x ∷ after = simp append_assoc in
      ap (λ r. r >>= λ b. steps f (i + 1) b (map back after)) (each i before x after e)
      ∙ runs each (i + 1) (before ++ x ∷ []) after (grouped ∙ e)

  pub all_taken : EachTaken → steps f 0 [] (map back xs) ≡ Ok xs
  all_taken each = runs each 0 [] xs refl

-- the item behind others
pub item_at : {X : Type 0} (before : List X) (x : X) (after xs : List X) (d : X) → before ++ x ∷ after ≡ xs
    → (length before < length xs) × (get_or xs (length before) d ≡ x)
item_at before x after xs d e = (
  subst (λ ys. length before < length ys) e (within before),
  ap (λ ys. get_or ys (length before) d) (sym e) ∙ get_or-append_seam before x after d,
)
  where
    within : (ys : List _) → length ys < length (ys ++ x ∷ after)
    within [] = omega arith
    within (y ∷ ys) = let r = within ys in omega (arith, r)

-- the parts of a mapped list
pub parts_mapped : {X Y : Type 0} (f : X → Y) (before : List X) (x : X) (after xs : List X)
    → before ++ x ∷ after ≡ xs → map f before ++ f x ∷ map f after ≡ map f xs
parts_mapped f before x after xs e = sym (map-append f before (x ∷ after)) ∙ ap (map f) e
