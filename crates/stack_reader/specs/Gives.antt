-- What a function returned, against what is defined; only that memory runs out is free, and it never stands among the
-- faults of content.
use Rattle.std.specs.Prelude.{◌≡◌, ◌≢◌, Result, Ok, Err, ⊤}
use Rattle.stack_model.specs.declared.errors.ModelError.TheVariants as faults
use Rattle.stack_reader.specs.declared.errors.ReadError.{ReadError}
use Rattle.stack_reader.specs.declared.errors.ReadError.TheVariants.{Model, Memory}

-- a returned fault is the one that is defined, unless memory ran out, which is no fault of content
abbrev pub FailsRead : {Y : Type 0} → ReadError → Result Y ReadError → Type 0
FailsRead Memory read = ⊤
FailsRead (Model e) read = (read ≡ Err (Model e)) × (e ≢ faults.Memory)
FailsRead e read = read ≡ Err e

-- seen by view, it is what is defined
abbrev pub GivesRead : {X Y : Type 0} → (X → Y) → Result X ReadError → Result Y ReadError → Type 0
GivesRead view (Ok x) read = read ≡ Ok (view x)
GivesRead view (Err e) read = FailsRead e read
