-- A list that a loop fills, one item a turn.
use Rattle.std.proofs.Common.{◌≡◌, ℕ, ◌+◌, List, [], ◌∷◌, ◌++◌, sym, ap, ◌∙◌, add-one, append_assoc}
use Rattle.stack_algebra.proofs.Listed.{listed, listed_more}

module _ {X : Type 0} (f : ℕ → X) where
  longer : (i : ℕ) → listed i f ++ f i ∷ [] ≡ listed (i + 1) f
  longer i = sym (listed_more i f) ∙ ap (λ n. listed n f) (sym (add-one i))

  pub one_more : (xs next : List X) (i : ℕ) (x : X) → next ≡ xs ++ x ∷ [] → x ≡ f i → xs ≡ listed i f
      → next ≡ listed (i + 1) f
  one_more xs next i x h is so_far =
      h ∙ (λ j. so_far j ++ is j ∷ []) ∙ longer i

  -- one more value, behind the items that were there before the loop
  pub one_more_after : (front xs next : List X) (i : ℕ) (x : X) → next ≡ xs ++ x ∷ [] → x ≡ f i
      → xs ≡ front ++ listed i f → next ≡ front ++ listed (i + 1) f
  one_more_after front xs next i x h is so_far =
      h ∙ (λ j. so_far j ++ is j ∷ []) ∙ append_assoc front (listed i f) (f i ∷ [])
      ∙ ap (λ ys. front ++ ys) (longer i)
