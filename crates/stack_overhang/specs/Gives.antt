-- What a call returned, against the model that it is to make, where its size is within the limits.
use Rattle.std.specs.Prelude.{◌≡◌, ℕ, Bool, ◌&&◌, Result, Ok, Err, IsOk, nat_le, if◌then◌else◌}
use Rattle.stack_model.specs.Structure.{Structure}
use Rattle.stack_overhang.specs.declared.error.StackError.{StackError}
use Rattle.stack_overhang.specs.declared.error.StackError.TheVariants.{Size, Memory}

-- a size from least to most, both included
abbrev pub is_size : ℕ → ℕ → ℕ → Bool
is_size least most n = nat_le least n && nat_le n most

-- the structure for a size from least to most
abbrev pub sized : ℕ → ℕ → ℕ → Structure → Result Structure StackError
sized least most n s = if is_size least most n then Ok s else Err Size

-- that memory ran out may be answered only if the size is within its limits
abbrev pub GivesStack : Result Structure StackError → Result Structure StackError → Type 0
GivesStack (Ok s) made = made ≡ Ok s
GivesStack (Err Size) made = made ≡ Err Size
GivesStack (Err Memory) made = IsOk made
