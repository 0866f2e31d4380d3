-- What a put writes.
use Rattle.std.specs.Prelude.{ℕ, List, take, Option, Result, Ok, Err}
use Rattle.std.specs.Io.KnownBytes.{Appends}
use Rattle.stack_outside.specs.declared.error.SinkFailed.{SinkFailed}
use Rattle.std.specs.Prelude.{⊤}

-- The whole piece at Ok, and a front of it at Err.
abbrev pub Puts : Option (List ℕ) → Option (List ℕ) → List ℕ → Result ⊤ SinkFailed → Type 0
Puts old new piece (Ok done) = Appends old new piece
Puts old new piece (Err failed) = (n : ℕ) × Appends old new (take n piece)
