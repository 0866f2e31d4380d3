-- What the steps of an item answer against its causes, one step after the other.
use Rattle.std.proofs.Common.{◌≡◌, refl, sym, ap, subst, ℕ, Bool, true, false, not, ◌&&◌, List, [], ◌∷◌, Option, Some}
use Rattle.std.proofs.Common.{None, Result, Ok, Err}
use Rattle.std.specs.Prelude.{is_none, ⊤}
use Rattle.stack_algebra.specs.Steps.{◌>>=◌}
use Rattle.stack_algebra.specs.Search.{or_else, only_if}
use Rattle.stack_model.specs.declared.places.Spot.{Spot}
use Rattle.stack_model.specs.declared.places.Key.{Key}
use Rattle.stack_model.specs.declared.errors.ModelError.{ModelError}
use Rattle.stack_model.specs.declared.errors.ModelError.TheVariants.{Range}
use Rattle.stack_whole.specs.Demands.{unless}
use Rattle.stack_model.specs.Content.{ranged, found}
use Rattle.stack_faults.proofs.Firsts.{Answers, first_cause, last_told}

-- the first of these causes is answered, or a value of which Q holds
pub record Meets {A : Type 0} (Q : A → Type 0) (r : Result A ModelError) (cs : List (Bool × ModelError)) : Type 0 where
  pub answers : Answers Q r (first_cause cs)

pub ends : {A : Type 0} {Q : A → Type 0} {x : A} → Q x → Meets Q (Ok x) []
ends h = record { answers = (refl, h) }

-- a test a, where t says that it fails
pub unless_step : {A : Type 0} {Q : A → Type 0} {t : Bool} {e : ModelError} {r : Result A ModelError}
    {cs : List (Bool × ModelError)} (a : Bool) → t ≡ not a → (a ≡ true → Meets Q r cs)
    → Meets Q (unless a e >>= λ _. r) ((t, e) ∷ cs)
unless_step {A} {Q} {t} {e} {r} {cs} true h f = record {
  answers = subst (λ t. Answers Q r (first_cause ((t, e) ∷ cs))) (sym h) (f refl).answers;
}
unless_step {A} {Q} {t} {e} {r} {cs} false h f = record { answers = ap (λ t. first_cause ((t, e) ∷ cs)) h }

pub ranged_step : {X A : Type 0} {Q : A → Type 0} {s : Spot} {j : Key} {k : X → Result A ModelError}
    {cs : List (Bool × ModelError)} (o : Option X) → ((x : X) → o ≡ Some x → Meets Q (k x) cs)
    → Meets Q (ranged s j o >>= k) ((is_none o, Range s j) ∷ cs)
ranged_step (Some x) f = record { answers = (f x refl).answers }
ranged_step None f = record { answers = refl }

pub found_step : {A : Type 0} {Q : A → Type 0} {t : Bool} {e : ModelError} {k : ℕ → Result A ModelError}
    {cs : List (Bool × ModelError)} (o : Option ℕ) → t ≡ is_none o → ((n : ℕ) → o ≡ Some n → Meets Q (k n) cs)
    → Meets Q (found o e >>= k) ((t, e) ∷ cs)
found_step {A} {Q} {t} {e} {k} {cs} (Some n) h f = record {
  answers = subst (λ t. Answers Q (k n) (first_cause ((t, e) ∷ cs))) (sym h) (f n refl).answers;
}
found_step {A} {Q} {t} {e} {k} {cs} None h f = record { answers = ap (λ t. first_cause ((t, e) ∷ cs)) h }

-- two that must both be found, where a and b say that each of them is
pub both_step : {A : Type 0} {Q : A → Type 0} {e : ModelError} {k : ℕ → ℕ → Result A ModelError}
    {cs : List (Bool × ModelError)} (a b : Bool) (o p : Option ℕ) → not a ≡ is_none o → not b ≡ is_none p
    → ((m n : ℕ) → o ≡ Some m → p ≡ Some n → Meets Q (k m n) cs)
    → Meets Q (found o e >>= λ m. found p e >>= λ n. k m n) ((not (a && b), e) ∷ cs)
both_step true true (Some m) (Some n) h i f = record { answers = (f m n refl refl).answers }
both_step true false (Some m) None h i f = record { answers = refl }
both_step false b None p h i f = record { answers = refl }
both_step false b (Some m) p h i f = absurd cc
both_step true b None p h i f = absurd cc
both_step true false (Some m) (Some n) h i f = absurd cc
both_step true true (Some m) None h i f = absurd cc

-- a step r that fails where z says so
pub try_step : {X A : Type 0} {Q : A → Type 0} {z : Bool} {e : ModelError} {k : X → Result A ModelError}
    {cs : List (Bool × ModelError)} (r : Result X ModelError) → Answers (λ _. ⊤) r (only_if z e)
    → ((x : X) → r ≡ Ok x → Meets Q (k x) cs) → Meets Q (r >>= k) ((z, e) ∷ cs)
try_step {X} {A} {Q} {z} {e} {k} {cs} (Ok x) h f = record {
  answers = subst (λ o. Answers Q (k x) (or_else o (first_cause cs))) (sym h.0) (f x refl).answers;
}
try_step {X} {A} {Q} {z} {e} {k} {cs} (Err y) h f = record { answers = ap (λ o. or_else o (first_cause cs)) h }

-- the last step, after which R holds
pub last_step : {X A : Type 0} {Q : A → Type 0} {R : Type 0} {cs : List (Bool × ModelError)}
    (r : Result X ModelError) (x : A) → Answers (λ _. R) r (first_cause cs) → (R → Q x) → Meets Q (r >>= λ _. Ok x) cs
last_step {X} {A} {Q} {R} {cs} r x h f = record {
  answers = last_told (λ _. R) Q r (λ _. x) (first_cause cs) h (λ _ g. f g);
}
