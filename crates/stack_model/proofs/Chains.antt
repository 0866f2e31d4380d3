-- A chain of steps went well: what each of its steps gave. And one goes well where each of its steps does.
use Rattle.std.proofs.Common.{◌≡◌, ℕ, Bool, true, false, Option, Some, None, Result, Ok, Err, refl, sym, ap, ◌∙◌}
use Rattle.std.proofs.Common.{subst}
use Rattle.std.specs.Bool.{⊤}
use Rattle.std.specs.Result.{IsErrAnd}
use Rattle.stack_algebra.specs.Steps.{◌>>=◌}
use Rattle.stack_model.specs.declared.places.Spot.{Spot}
use Rattle.stack_model.specs.declared.places.Key.{Key}
use Rattle.stack_model.specs.declared.errors.ModelError.{ModelError}
use Rattle.stack_model.specs.declared.errors.ModelError.TheVariants.{Memory}
use Rattle.stack_model.specs.Gives.{Fails, Gives}
use Rattle.stack_whole.specs.Demands.{unless}
use Rattle.stack_model.specs.Content.{ranged, found}

-- a test that held
pub held : (b : Bool) (e : ModelError) (x : ⊤) → unless b e ≡ Ok x → b ≡ true
held true e x h = refl
held false e x h = absurd (cc)

-- a value that was there
pub there : {A : Type 0} (s : Spot) (k : Key) (o : Option A) (x : A) → ranged s k o ≡ Ok x → o ≡ Some x
there s k (Some y) x h = cc
there s k None x h = absurd (cc)

-- from a first step that went well, and the rest
pub any_went : {A B P : Type 0} {y : B} (r : Result A ModelError) (k : A → Result B ModelError) → (r >>= k) ≡ Ok y
    → ((x : A) → r ≡ Ok x → k x ≡ Ok y → P) → P
any_went (Ok x) k h f = f x refl h
any_went (Err e) k h f = absurd (cc)

pub unless_went : {B P : Type 0} {y : B} (a : Bool) (e : ModelError) (r : Result B ModelError)
    → (unless a e >>= λ _. r) ≡ Ok y → (a ≡ true → r ≡ Ok y → P) → P
unless_went true e r h f = f refl h
unless_went false e r h f = absurd (cc)

pub ranged_went : {A B P : Type 0} {y : B} (s : Spot) (j : Key) (o : Option A) (k : A → Result B ModelError)
    → (ranged s j o >>= k) ≡ Ok y → ((x : A) → o ≡ Some x → k x ≡ Ok y → P) → P
ranged_went s j (Some x) k h f = f x refl h
ranged_went s j None k h f = absurd (cc)

pub found_went : {B P : Type 0} {y : B} (o : Option ℕ) (e : ModelError) (k : ℕ → Result B ModelError)
    → (found o e >>= k) ≡ Ok y → ((n : ℕ) → o ≡ Some n → k n ≡ Ok y → P) → P
found_went (Some n) e k h f = f n refl h
found_went None e k h f = absurd (cc)

-- a first step that goes well, and the rest
pub any_runs : {A B : Type 0} {r : Result A ModelError} {x : A} {y : B} (k : A → Result B ModelError) → r ≡ Ok x
    → k x ≡ Ok y → (r >>= k) ≡ Ok y
any_runs k e h = ap (λ r. r >>= k) e ∙ h

pub unless_runs : {B : Type 0} {a : Bool} {r : Result B ModelError} {y : B} (e : ModelError) → a ≡ true → r ≡ Ok y
    → (unless a e >>= λ _. r) ≡ Ok y
unless_runs {B} {a} {r} e h g = ap (λ a. unless a e >>= λ _. r) h ∙ g

pub ranged_runs : {A B : Type 0} {o : Option A} {x : A} {y : B} (s : Spot) (j : Key) (k : A → Result B ModelError)
    → o ≡ Some x → k x ≡ Ok y → (ranged s j o >>= k) ≡ Ok y
ranged_runs s j k h g = ap (λ o. ranged s j o >>= k) h ∙ g

pub found_runs : {B : Type 0} {o : Option ℕ} {n : ℕ} {y : B} (e : ModelError) (k : ℕ → Result B ModelError)
    → o ≡ Some n → k n ≡ Ok y → (found o e >>= k) ≡ Ok y
found_runs e k h g = ap (λ o. found o e >>= k) h ∙ g

-- a refusal that is the defined one
pub fails_as : {A : Type 0} {r : Result A ModelError} (e : ModelError) → r ≡ Err e → Fails e r
fails_as Memory h = tt
fails_as e h = h

-- a chain that is refused at its first step, or later
pub any_fails : {A B : Type 0} (e : ModelError) (r : Result A ModelError) (k : A → Result B ModelError) → Fails e r
    → Fails e (r >>= k)
any_fails Memory r k h = tt
any_fails e r k h = ap (λ r. r >>= k) h

pub later_fails : {A B : Type 0} (e : ModelError) {r : Result A ModelError} {x : A} (k : A → Result B ModelError)
    → r ≡ Ok x → Fails e (k x) → Fails e (r >>= k)
later_fails e k h f = subst (Fails e) (sym (ap (λ r. r >>= k) h)) f

-- a refusal that is handed on
pub refused : {X Y : Type 0} (view : X → Y) (e : ModelError) (r : Result X ModelError) (read : Result Y ModelError)
    → IsErrAnd r (λ f. f ≡ e) → Fails e read → Gives view r read
refused view e (Ok x) read is h = absurd is
refused view e (Err f) read is h = subst (λ f. Fails f read) (sym is) h

-- an answer that is what is left of a chain gives
pub later_gives : {X A B : Type 0} (view : X → B) (r : Result X ModelError) {read : Result A ModelError} {x : A}
    (k : A → Result B ModelError) → read ≡ Ok x → Gives view r (k x) → Gives view r (read >>= k)
later_gives view r k h g = subst (Gives view r) (sym (ap (λ r. r >>= k) h)) g
