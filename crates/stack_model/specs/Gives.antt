-- What a function returned, against what is defined; only that memory runs out is free.
use Rattle.std.specs.Prelude.{◌≡◌, Result, Ok, Err, ⊤}
use Rattle.stack_model.specs.declared.errors.ModelError.{ModelError}
use Rattle.stack_model.specs.declared.errors.ModelError.TheVariants.{Memory}

-- a returned fault is the one that is defined, unless memory ran out
abbrev pub Fails : {Y : Type 0} → ModelError → Result Y ModelError → Type 0
Fails Memory read = ⊤
Fails fault read = read ≡ Err fault

-- seen by view, it is what is defined
abbrev pub Gives : {X Y : Type 0} → (X → Y) → Result X ModelError → Result Y ModelError → Type 0
Gives view (Ok x) read = read ≡ Ok (view x)
Gives view (Err fault) read = Fails fault read
