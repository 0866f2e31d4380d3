-- A structure has one survey.
use Rattle.std.specs.Prelude.{◌≡◌, ◌⊎◌, Result, Err}
use Rattle.stack_model.specs.Structure.{Structure}
use Rattle.stack_contact.specs.declared.types.SurveyError.{SurveyError}
use Rattle.stack_contact.specs.declared.types.SurveyError.TheVariants.{Memory}
use Rattle.stack_contact.specs.Surveyed.{Surveyed, Surveys}

-- two answers to one structure are the same, unless memory ran out
abbrev pub StructuresHaveOneSurvey : Type 0
StructuresHaveOneSurvey = (s : Structure) (a b : Result Surveyed SurveyError) → Surveys s a → Surveys s b
    → (a ≡ Err Memory) ⊎ ((b ≡ Err Memory) ⊎ (a ≡ b))
