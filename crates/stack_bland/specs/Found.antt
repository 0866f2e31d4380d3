-- What a search that may give up says of what there is to find.
use Rattle.std.specs.Prelude.{◌≡◌, ⊤, Option, Some, None}
use Rattle.stack_bland.specs.declared.found.Found.{Found}
use Rattle.stack_bland.specs.declared.found.Found.TheVariants.{GaveUp, Nothing, This}

-- what is found is what there is; a search that is given up says nothing
abbrev pub TellsFound : {A : Type 0} → Found A → Option A → Type 0
TellsFound GaveUp o = ⊤
TellsFound Nothing o = None ≡ o
TellsFound (This x) o = Some x ≡ o

-- what is found, if anything is, has this property
abbrev pub IfFound : {A : Type 0} → Found A → (A → Type 0) → Type 0
IfFound GaveUp P = ⊤
IfFound Nothing P = ⊤
IfFound (This x) P = P x
