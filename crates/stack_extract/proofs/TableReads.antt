-- Reading a table: a search for the row of a basic column, and lists that grow.
use Rattle.std.proofs.Common.{◌≡◌, sym, ap, ◌∙◌, ℕ, ◌+◌, ◌<◌, true, List, [], ◌∷◌, ◌++◌, eqb, Option, Some, None}
use Rattle.std.proofs.Common.{add-one}
use Rattle.stack_rational.proofs.Common.{first, only_if, least, first_found, least-some, listed}
use Rattle.stack_algebra.proofs.Listed.{listed_more}

pub found_here : (basic : ℕ → ℕ) (n j i : ℕ) → i < n → eqb (basic i) j ≡ true →
    first i (λ i. only_if (eqb (basic i) j) i) ≡ None → Some i ≡ least n (λ i. eqb (basic i) j)
found_here basic n j i l e h = sym (first_found n i (λ i. only_if (eqb (basic i) j) i) i l h
    (ap (λ b. only_if b i) e))

pub row_within : (basic : ℕ → ℕ) (n j i : ℕ) (o : Option ℕ) → o ≡ least n (λ i. eqb (basic i) j) →
    o ≡ Some i → i < n
row_within basic n j i o e h = (least-some n (λ i. eqb (basic i) j) i (sym e ∙ h)).below

-- a list that grows by the next value
pub grown : {X : Type 0} (f : ℕ → X) (j : ℕ) (x : X) (xs ys : List X) → x ≡ f j → xs ≡ listed j f →
    ys ≡ xs ++ x ∷ [] → ys ≡ listed (j + 1) f
grown f j x xs ys e h g = g ∙ (λ i. h i ++ e i ∷ []) ∙ sym (listed_more j f) ∙ ap (λ n. listed n f)
    (sym (add-one j))

-- a list that has grown to its end is whole
pub whole : {X : Type 0} (f : ℕ → X) (j n : ℕ) (xs : List X) → xs ≡ listed j f → j ≡ n → xs ≡ listed n f
whole f j n xs h e = h ∙ ap (λ n. listed n f) e
