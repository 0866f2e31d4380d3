-- A loop over what a file lists, one step after the other.
use Rattle.std.proofs.Common.{◌≡◌, ℕ, ◌+◌, ◌<◌, ◌≤◌, List, map, length, get_or, drop, Result, Ok, Err, sym}
use Rattle.std.proofs.Common.{ap, ◌∙◌, subst}
use Rattle.std.proofs.lemmas.List.{get_or-map, length-map}
use Rattle.std.specs.Result.{IsErrAnd}
use Rattle.stack_algebra.specs.Steps.{steps}
use Rattle.stack_algebra.proofs.Steps.{step_on, step_out, steps_done}
use Rattle.stack_model.specs.declared.errors.ModelError.{ModelError}
use Rattle.stack_model.specs.declared.errors.ModelError.TheVariants.{Memory}
use Rattle.stack_model.specs.Gives.{Fails, Gives}
use Rattle.stack_model.proofs.Chains.{refused}

-- a refusal that is handed on
handed_on : {Y Z : Type 0} (e : ModelError) (read : Result Y ModelError) (total : Result Z ModelError)
    → Fails e read → (read ≡ Err e → total ≡ Err e) → Fails e total
handed_on Memory read total h f = tt
handed_on e read total h f = f h

module _ {A X P : Type 0} (f : ℕ → A → P → Result A ModelError) (view : X → P) (xs : List X) (i : ℕ) where
  item : (x : X) → i < length xs → x ≡ get_or xs i x → get_or (map view xs) i (view x) ≡ view x
  item x lt is = get_or-map view xs i x (view x) lt ∙ ap view (sym is)

  below : i < length xs → i < length (map view xs)
  below lt = subst (λ n. i < n) (sym (length-map xs view)) lt

  pub follows : (x : X) (a b : A) (total : Result A ModelError) → i < length xs → x ≡ get_or xs i x
      → f i a (view x) ≡ Ok b
      → steps f i a (drop i (map view xs)) ≡ total → steps f (i + 1) b (drop (i + 1) (map view xs)) ≡ total
  follows x a b total lt is h so_far = step_on f (map view xs) i a b (view x) total (below lt)
      (ap (f i a) (item x lt is) ∙ h) so_far

  -- what `?` hands on
  pub stops : {Y : Type 0} (made : Y → A) (e : ModelError) (r : Result Y ModelError) (x : X) (a : A)
      (total : Result A ModelError) → IsErrAnd r (λ f. f ≡ e) → i < length xs → x ≡ get_or xs i x
      → Fails e (f i a (view x)) → steps f i a (drop i (map view xs)) ≡ total → Gives made r total
  stops made e r x a total handed lt is h so_far = refused made e r total handed
      (handed_on e (f i a (view x)) total h (λ here.
      sym (step_out f (map view xs) i a (view x) e total (below lt) (ap (f i a) (item x lt is) ∙ here) so_far)))

  pub ended : (a : A) (total : Result A ModelError) → length xs ≤ i → steps f i a (drop i (map view xs)) ≡ total
      → total ≡ Ok a
  ended a total le so_far = sym (steps_done f (map view xs) i a total
      (subst (λ n. n ≤ i) (sym (length-map xs view)) le) so_far)
