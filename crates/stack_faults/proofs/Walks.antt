-- A run over the items of a list, against the faults of the items by number.
use Rattle.std.proofs.Common.{◌≡◌, refl, sym, ◌∙◌, subst, ℕ, zero, suc, ◌+◌, ◌<◌, Bool, List, length, get_or, drop}
use Rattle.std.proofs.Common.{arith, Option, None, Result, Ok, Err}
use Rattle.std.proofs.lemmas.List.{drop_all, drop_more}
use Rattle.stack_algebra.specs.Steps.{◌>>=◌, steps}
use Rattle.stack_algebra.specs.Search.{first}
use Rattle.stack_algebra.proofs.Search.{first_found, first_more, first_same}
use Rattle.stack_faults.specs.FaultLists.{faults_where, faults_below, earliest}
use Rattle.stack_faults.proofs.Firsts.{Answers, first_cause, earliest-below, earliest-where}

-- as long as the first i items have no fault, what is collected has I; the run then answers the first fault
module _ {A X E : Type 0} (f : ℕ → A → X → Result A E) (xs : List X) (d : X) (I : ℕ → A → Type 0)
    (fault : ℕ → Option E)
    (step : (i : ℕ) (a : A) → i < length xs → I i a → Answers (I (i + 1)) (f i a (get_or xs i d)) (fault i)) where
  abbrev Ends : Result A E → Type 0
  Ends r = Answers (I (length xs)) r (first (length xs) fault)

  walk : (n i : ℕ) (a : A) → i + n ≡ length xs → I i a → first i fault ≡ None → Ends (steps f i a (drop i xs))
  walk zero i a e h k =
      let same : i ≡ length xs = omega (arith, e) in
      subst (λ ys. Ends (steps f i a ys)) (sym (drop_all i xs (omega (arith, e))))
      (subst (λ m. first m fault ≡ None) same k, subst (λ m. I m a) same h)
  walk (suc n) i a e h k =
      let below : i < length xs = omega (arith, e) in
      subst (λ ys. Ends (steps f i a ys)) (sym (drop_more xs i d below))
      (one (f i a (get_or xs i d)) below (step i a below h)
      (λ b j m. walk n (i + 1) b (omega (arith, e)) j m))
    where
      one : (r : Result A E) → i < length xs → Answers (I (i + 1)) r (fault i)
          → ((b : A) → I (i + 1) b → first (i + 1) fault ≡ None → Ends (steps f (i + 1) b (drop (i + 1) xs)))
          → Ends (r >>= λ b. steps f (i + 1) b (drop (i + 1) xs))
      one (Ok b) l g rest = rest b g.1 (first_more i fault k g.0)
      one (Err x) l g rest = first_found (length xs) i fault x l k g

  pub walked : (a : A) → I 0 a → Ends (steps f 0 a xs)
  walked a h = walk (length xs) 0 a (omega arith) h refl

-- the run answers the first of the causes of the items, by number
pub listed : {A X E : Type 0} (f : ℕ → A → X → Result A E) (xs : List X) (d : X) (I : ℕ → A → Type 0)
    (causes : ℕ → List (Bool × E))
    → ((i : ℕ) (a : A) → i < length xs → I i a
    → Answers (I (i + 1)) (f i a (get_or xs i d)) (first_cause (causes i)))
    → (a : A) → I 0 a
    → Answers (I (length xs)) (steps f 0 a xs) (earliest (faults_below (length xs) (λ i. faults_where (causes i))))
listed f xs d I causes step a h =
    let same : first (length xs) (λ i. first_cause (causes i))
    ≡ earliest (faults_below (length xs) (λ i. faults_where (causes i))) =
    first_same (length xs) (λ i. first_cause (causes i)) (λ i. earliest (faults_where (causes i)))
    (λ i l. sym (earliest-where (causes i)))
    ∙ sym (earliest-below (length xs) (λ i. faults_where (causes i))) in
    subst (Answers (I (length xs)) (steps f 0 a xs)) same
    (walked f xs d I (λ i. first_cause (causes i)) step a h)
