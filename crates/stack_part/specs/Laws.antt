-- Laws of parts, whichever bodies are kept.
use Rattle.std.specs.Prelude.{ℕ, Bool}
use Rattle.stack_model.specs.Structure.{Structure}
use Rattle.stack_contact.specs.Surveyed.{Surveyed, IsSurvey}
use Rattle.stack_model.specs.Part.{part_of}
use Rattle.stack_part.specs.Part.{surveyed_part}

-- the part of a survey is the survey of the part
abbrev pub PartsAreSurveyed : Type 0
PartsAreSurveyed = (keeps : ℕ → Bool) (s : Structure) (v : Surveyed) → IsSurvey s v
    → IsSurvey (part_of keeps s) (surveyed_part keeps v)
