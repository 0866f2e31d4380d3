-- Each built-in wall has a survey, so that none is refused.
use Rattle.std.specs.Prelude.{◌≡◌, ℕ, Err}
use Rattle.stack_model.specs.Structure.{Structure}
use Rattle.stack_overhang.specs.declared.types.Wall.{Wall}
use Rattle.stack_overhang.specs.Limits.{IsWall}
use Rattle.stack_overhang.specs.Wall.{wall_structure, wall_of}
use Rattle.stack_contact.specs.declared.types.SurveyError.{SurveyError}
use Rattle.stack_contact.specs.declared.types.SurveyError.TheVariants.{Memory}
use Rattle.stack_contact.specs.Surveyed.{Surveyed, IsSurvey, Surveys}

-- no two of its bodies overlap, and it has a list of all its bearings, at most 1,024, and one of all its touches
abbrev pub HasSurvey : Structure → Type 0
HasSurvey s = (v : Surveyed) × IsSurvey s v

-- each wall of 2 to 10 courses of 2 to 10 bricks, whose even courses are shifted by at most half a brick, has one
abbrev pub WallsHaveSurveys : Type 0
WallsHaveSurveys = (w : Wall) → IsWall w → HasSurvey (wall_structure w)

-- each wall that a number draws has one
abbrev pub DrawnWallsHaveSurveys : Type 0
DrawnWallsHaveSurveys = (number : ℕ) → HasSurvey (wall_of number)

-- what has a survey isn't refused: if surveying it answers an error, memory ran out
abbrev pub SurveyedIsntRefused : Type 0
SurveyedIsntRefused = (s : Structure) (e : SurveyError) → HasSurvey s → Surveys s (Err e) → e ≡ Memory
