-- What reading directions answers. `Memory` may come at any time.
use Rattle.std.specs.Prelude.{◌≡◌, ℕ, ℤ, List, Result, Ok, Err, ⊤, Vec}
use Rattle.std.specs.declared.alloc.Global.{Global}
use Rattle.stack_certificate.specs.FaultLine.{cut}
use Rattle.stack_directions.specs.declared.errors.DirectionsError.{DirectionsError}
use Rattle.stack_directions.specs.declared.errors.DirectionsError.TheVariants.{Line, Memory}
use Rattle.stack_directions.specs.Directions.{directions_of, AreDirections, IsFaulty}

-- the directions, or the number of the first faulty line
abbrev pub GivesDirections : Result (Vec (ℤ × ℤ) Global) DirectionsError → List ℕ → Type 0
GivesDirections (Ok ds) text = directions_of text ≡ Ok ds.items
GivesDirections (Err (Line number)) text = directions_of text ≡ Err number
GivesDirections (Err Memory) text = ⊤

-- the directions of which the text consists, or the number of its first faulty line, by meaning
abbrev pub ReadsDirections : Result (Vec (ℤ × ℤ) Global) DirectionsError → List ℕ → Type 0
ReadsDirections (Ok ds) text = AreDirections ds.items text
ReadsDirections (Err (Line number)) text = IsFaulty number (cut text)
ReadsDirections (Err Memory) text = ⊤
