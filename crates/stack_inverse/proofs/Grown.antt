-- A list that grows by one item.
use Rattle.std.proofs.Common.{◌≡◌, sym, ap, subst, ◌∙◌, ℕ, ◌+◌, ◌<◌, List, [], ◌∷◌, ◌++◌, map, length, get_or, arith}
use Rattle.std.proofs.lemmas.List.{map-append, get_or_push}
use borrow.Author.Count.{below_more}
use Rattle.stack_rational.proofs.Common.{length-map, get_or_append_left}
use Rattle.stack_inverse.specs.Columns.{at_value}

-- where each so far meets a property by its place, and the next one does, all do
pub grown : {C : Type 0} (z : C) (P : ℕ → C → Type 0) (xs ys : List C) (x : C) (i : ℕ) → ys ≡ xs ++ x ∷ [] →
    length xs ≡ i → ((k : ℕ) → k < i → P k (get_or xs k z)) → P i x → (k : ℕ) → k < i + 1 → P k (get_or ys k z)
grown z P xs ys x i new long h here = below_more (λ k. P k (get_or ys k z)) i
    (λ k l. subst (P k) (sym (ap (λ zs. get_or zs k z) new
    ∙ get_or_append_left xs (x ∷ []) z k (omega (arith, long, l)))) (h k l))
    (subst (P i) (sym (ap (λ zs. get_or zs i z) new ∙ get_or_push xs x z i long)) here)

-- so do their values
pub grown_by : {V C : Type 0} (e : V → C) (z : C) (P : ℕ → C → Type 0) (xs ys : List V) (x : V) (i : ℕ) →
    ys ≡ xs ++ x ∷ [] → length xs ≡ i → ((k : ℕ) → k < i → P k (at_value e z xs k)) → P i (e x) →
    (k : ℕ) → k < i + 1 → P k (at_value e z ys k)
grown_by e z P xs ys x i new long = grown z P (map e xs) (map e ys) (e x) i
    (ap (map e) new ∙ map-append e xs (x ∷ [])) (length-map xs e ∙ long)
