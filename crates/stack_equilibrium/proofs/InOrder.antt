-- The result of two steps if both pass.
use Rattle.std.proofs.Common.{◌≡◌, refl, Result, Ok, Err}
use Rattle.stack_algebra.specs.Steps.{◌>>=◌}

-- a first step gives a value, and what follows it gives y
pub record FirstGives {A B E : Type 0} (r : Result A E) (f : A → Result B E) (y : B) : Type 0 where
  pub value : A
  pub before : r ≡ Ok value
  pub after : f value ≡ Ok y

pub bind_ok : {A B E : Type 0} (r : Result A E) (f : A → Result B E) (y : B) → (r >>= f) ≡ Ok y → FirstGives r f y
bind_ok (Ok x) f y h = record { value = x; before = refl; after = h }
bind_ok (Err e) f y h = absurd (cc)
