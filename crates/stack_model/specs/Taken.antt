-- What a model's structure gives where it is listed again.
use Rattle.std.specs.Prelude.{◌≡◌, Ok}
use Rattle.stack_model.specs.Structure.{Structure}
use Rattle.stack_model.specs.Content.{content_of}
use Rattle.stack_model.specs.Relisted.{relisted}
use Rattle.stack_model.specs.Sound.{IsSound}

-- listed as a file lists it, what is sound is taken without a fault and is the same
abbrev pub SoundIsTaken : Type 0
SoundIsTaken = (s : Structure) → IsSound s → content_of (relisted s) ≡ Ok s
