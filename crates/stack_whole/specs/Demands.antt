-- Demands: a test that must hold, whatever refuses where it doesn't.
use Rattle.std.specs.Prelude.{Bool, Result, Ok, Err, if◌then◌else◌, ⊤}

-- nothing where the test holds, or else this fault
abbrev pub unless : {E : Type 0} → Bool → E → Result ⊤ E
unless holds fault = if holds then Ok tt else Err fault
