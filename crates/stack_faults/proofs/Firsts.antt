-- The earliest fault of lists that are joined, and what a run answers against a fault.
use Rattle.std.proofs.Common.{◌≡◌, ◌↔◌, refl, sym, ap, subst, ◌∙◌, ℕ, zero, suc, Bool, true, false, List, [], ◌∷◌, ◌++◌}
use Rattle.std.proofs.Common.{Option, Some, None, Result, Ok, Err}
use Rattle.std.proofs.Common.{append_assoc}
use Rattle.std.proofs.lemmas.List.{append-nil}
use Rattle.std.specs.Prelude.{if◌then◌else◌, IsOk, ⊤}
use Rattle.stack_algebra.specs.Steps.{◌>>=◌}
use Rattle.stack_algebra.specs.Search.{or_else, only_if, first}
use Rattle.stack_faults.specs.FaultLists.{faults_where, faults_below, earliest, answered_fault}

pub earliest-append : {E : Type 0} (xs ys : List E) → earliest (xs ++ ys) ≡ or_else (earliest xs) (earliest ys)
earliest-append [] ys = refl
earliest-append (x ∷ xs) ys = refl

pub earliest-below : {E : Type 0} (n : ℕ) (f : ℕ → List E) → earliest (faults_below n f)
    ≡ first n (λ i. earliest (f i))
earliest-below zero f = refl
earliest-below (suc n) f = earliest-append (faults_below n f) (f n)
    ∙ ap (λ o. or_else o (earliest (f n))) (earliest-below n f)

-- the first of some causes that holds
abbrev pub first_cause : {E : Type 0} → List (Bool × E) → Option E
first_cause [] = None
first_cause (c ∷ cs) = or_else (only_if c.0 c.1) (first_cause cs)

pub earliest-where : {E : Type 0} (cs : List (Bool × E)) → earliest (faults_where cs) ≡ first_cause cs
earliest-where [] = refl
earliest-where {E} (c ∷ cs) = go c.0 c.1 (earliest-where cs)
  where
    go : (b : Bool) (x : E) → earliest (faults_where cs) ≡ first_cause cs
        → earliest (if b then x ∷ faults_where cs else faults_where cs) ≡ or_else (only_if b x) (first_cause cs)
    go true x h = refl
    go false x h = h

-- a run answers the fault o, or where there is none a value of which P holds
abbrev pub Answers : {A E : Type 0} → (A → Type 0) → Result A E → Option E → Type 0
Answers P (Ok x) o = (o ≡ None) × P x
Answers P (Err e) o = o ≡ Some e

pub answers_fault : {A E : Type 0} (P : A → Type 0) (r : Result A E) (o : Option E) → Answers P r o
    → answered_fault r ≡ o
answers_fault P (Ok x) o h = sym h.0
answers_fault P (Err e) o h = sym h

pub answers_weaker : {A E : Type 0} (P Q : A → Type 0) (r : Result A E) (o : Option E) → ((x : A) → P x → Q x)
    → Answers P r o → Answers Q r o
answers_weaker P Q (Ok x) o f h = (h.0, f x h.1)
answers_weaker P Q (Err e) o f h = h

-- what is answered, as a fault alone
pub answers_of : {A E : Type 0} (r : Result A E) (o : Option E) → answered_fault r ≡ o → Answers (λ _. ⊤) r o
answers_of (Ok x) o h = (sym h, tt)
answers_of (Err e) o h = sym h

-- a step answers the first faults, and what follows it the others
pub then_told : {X Y E : Type 0} (P : X → Type 0) (Q : Y → Type 0) (r : Result X E) (k : X → Result Y E)
    (xs ys : List E) → Answers P r (earliest xs) → ((x : X) → P x → Answers Q (k x) (earliest ys))
    → Answers Q (r >>= k) (earliest (xs ++ ys))
then_told P Q (Err e) k xs ys h f = earliest-append xs ys ∙ ap (λ o. or_else o (earliest ys)) h
then_told P Q (Ok x) k xs ys h f = subst (Answers Q (k x))
    (sym (earliest-append xs ys ∙ ap (λ o. or_else o (earliest ys)) h.0)) (f x h.1)

-- a last step, and what is made of its value
pub last_told : {X Y E : Type 0} (P : X → Type 0) (Q : Y → Type 0) (r : Result X E) (to : X → Y) (o : Option E)
    → Answers P r o → ((x : X) → P x → Q (to x)) → Answers Q (r >>= λ x. Ok (to x)) o
last_told P Q (Err e) to o h f = h
last_told P Q (Ok x) to o h f = (h.0, f x h.1)

-- a run answers the earliest of these faults, or a value where there are none
pub record Told {A E : Type 0} (r : Result A E) (xs : List E) : Type 0 where
  pub told : answered_fault r ≡ earliest xs

-- some lists, one after the other, joined from the right and from the left
abbrev joined : {E : Type 0} → List (List E) → List E
joined [] = []
joined (xs ∷ xss) = xs ++ joined xss

abbrev pub joined_to : {E : Type 0} → List E → List (List E) → List E
joined_to xs [] = xs
joined_to xs (ys ∷ yss) = joined_to (xs ++ ys) yss

same_joined : {E : Type 0} (xs : List E) (yss : List (List E)) → xs ++ joined yss ≡ joined_to xs yss
same_joined xs [] = append-nil xs
same_joined xs (ys ∷ yss) = sym (append_assoc xs ys (joined yss)) ∙ same_joined (xs ++ ys) yss

-- a run of steps answers the earliest of the faults of each of them
pub record Steps {A E : Type 0} (r : Result A E) (xss : List (List E)) : Type 0 where
  pub told : answered_fault r ≡ earliest (joined xss)

pub all_told : {A E : Type 0} {r : Result A E} {xs : List E} {xss : List (List E)} → Steps r (xs ∷ xss)
    → Told r (joined_to xs xss)
all_told {A} {E} {r} {xs} {xss} h = record { told = h.told ∙ ap earliest (same_joined xs xss) }

-- a step and what follows it, which may need what a value of the step has
pub record Finds {X E : Type 0} (P : X → Type 0) (r : Result X E) (xs : List E) : Type 0 where
  pub found : Answers P r (earliest xs)

pub step_found : {X Y E : Type 0} {P : X → Type 0} {r : Result X E} {k : X → Result Y E} {xs : List E}
    {xss : List (List E)} → Finds P r xs → ((x : X) → P x → Steps (k x) xss) → Steps (r >>= k) (xs ∷ xss)
step_found {X} {Y} {E} {P} {r} {k} {xs} {xss} h f = record {
  told = answers_fault (λ _. ⊤) (r >>= k) (earliest (joined (xs ∷ xss)))
      (then_told P (λ _. ⊤) r k xs (joined xss) h.found
      (λ x p. answers_of (k x) (earliest (joined xss)) (f x p).told));
}

pub step : {X Y E : Type 0} {r : Result X E} {k : X → Result Y E} {xs : List E} {xss : List (List E)} → Told r xs
    → ((x : X) → Steps (k x) xss) → Steps (r >>= k) (xs ∷ xss)
step {X} {Y} {E} {r} {k} {xs} h f =
    let found : Finds (λ _. ⊤) r xs = record { found = answers_of r (earliest xs) h.told } in
    step_found found (λ x _. f x)

-- the last step, and what is made of its value
pub last : {X Y E : Type 0} {r : Result X E} {xs : List E} (to : X → Y) → Told r xs
    → Steps (r >>= λ x. Ok (to x)) (xs ∷ [])
last to h = step h (λ x. record { told = refl })

-- a value comes exactly where there is no fault
pub faultless : {A E : Type 0} (r : Result A E) (xs : List E) → answered_fault r ≡ earliest xs
    → IsOk r ↔ (xs ≡ [])
faultless (Ok x) [] h = (λ _. refl, λ _. refl)
faultless (Ok x) (y ∷ ys) h = absurd cc
faultless (Err e) [] h = absurd cc
faultless (Err e) (y ∷ ys) h = (λ t. absurd cc, λ t. absurd cc)
