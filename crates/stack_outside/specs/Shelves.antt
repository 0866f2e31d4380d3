-- What a read of a shelf answers, and what it takes of a file.
use Rattle.std.specs.Prelude.{◌≡◌, ℕ, ◌+◌, ◌≤◌, ◌<◌, List, [], ◌∷◌, ◌++◌, length, Option, Some, None, Result, Ok, Err}
use Rattle.std.specs.Prelude.{Bool, true, false, IfSome, Vec, ⊤, ◌⊎◌}
use Rattle.std.specs.declared.alloc.Global.{Global}
use Rattle.stack_outside.specs.declared.error.CallFailed.{CallFailed}
use Rattle.stack_outside.specs.declared.error.ShelfError.{ShelfError}
use Rattle.stack_outside.specs.declared.error.ShelfError.TheVariants.{Failed, TooLong, Memory}

-- A read of a name that holds these bytes, where they are told. Failed and Memory say nothing of them.
abbrev pub ReadGives : Option (List ℕ) → ℕ → Result (Vec ℕ Global) ShelfError → Type 0
ReadGives held most (Ok v) = (length v.items ≤ most) × IfSome held (λ bytes. v.items ≡ bytes)
ReadGives held most (Err Failed) = ⊤
ReadGives held most (Err TooLong) = IfSome held (λ bytes. most < length bytes)
ReadGives held most (Err Memory) = ⊤

-- The read failed, so that the count goes up.
abbrev pub has_failed : Result (Vec ℕ Global) ShelfError → Bool
has_failed (Err Failed) = true
has_failed _ = false

-- How many bytes one read of a file gave.
abbrev pub read_count : Result ℕ CallFailed → ℕ
read_count (Ok n) = n
read_count (Err e) = 0

-- A count of bytes that is told stays told, and grows by at most this many.
abbrev pub TakesAtMost : ℕ → Option ℕ → Option ℕ → Type 0
TakesAtMost most None after = ⊤
TakesAtMost most (Some old) None = ⊥
TakesAtMost most (Some old) (Some new) = new ≤ old + most

-- Told names stay told, and grow by this one.
abbrev pub Asks : Option (List (List ℕ)) → Option (List (List ℕ)) → List ℕ → Type 0
Asks None after name = ⊤
Asks (Some old) None name = ⊥
Asks (Some old) (Some new) name = new ≡ old ++ name ∷ []

-- Told names stay told, and grow by the name of the read. A read that answers Memory may leave them.
abbrev pub Records : Option (List (List ℕ)) → Option (List (List ℕ)) → List ℕ → Result (Vec ℕ Global) ShelfError
    → Type 0
Records None after name result = ⊤
Records (Some old) None name result = ⊥
Records (Some old) (Some new) name result = (new ≡ old ++ name ∷ []) ⊎ ((result ≡ Err Memory) × (new ≡ old))
