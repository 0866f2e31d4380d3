-- Lists of faults: those whose property holds, those of one item after the other, and the earliest of a list.
use Rattle.std.specs.Prelude.{ℕ, zero, suc, Bool, List, [], ◌∷◌, ◌++◌, Option, Some, None, Result, Ok, Err}
use Rattle.std.specs.Prelude.{if◌then◌else◌}

-- of properties, each with its fault, the faults of those that hold, in their order
abbrev pub faults_where : {E : Type 0} → List (Bool × E) → List E
faults_where [] = []
faults_where (cause ∷ causes) = if cause.0 then cause.1 ∷ faults_where causes else faults_where causes

-- the faults of item 0, then those of item 1, and so on, of the first n items
abbrev pub faults_below : {E : Type 0} → ℕ → (ℕ → List E) → List E
faults_below zero faults = []
faults_below (suc n) faults = faults_below n faults ++ faults n

-- the first item of a list, if it has one
abbrev pub earliest : {E : Type 0} → List E → Option E
earliest [] = None
earliest (fault ∷ faults) = Some fault

-- the fault that is answered, if no value is
abbrev pub answered_fault : {A E : Type 0} → Result A E → Option E
answered_fault (Ok x) = None
answered_fault (Err fault) = Some fault
