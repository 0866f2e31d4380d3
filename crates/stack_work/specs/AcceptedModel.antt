-- Which files are models that the program takes. The law on them is `goes_on_with_accepted_models` of stack_said.
use Rattle.std.specs.Prelude.{◌≡◌, ℕ, ◌≤◌, List, length, Ok}
use Rattle.stack_model.specs.Structure.{Structure}
use Rattle.stack_reader.specs.Reading.{structure_of}
use Rattle.stack_contact.specs.Surveyed.{Surveyed, IsSurvey}
use Rattle.stack_work.specs.Surveying.{greatest_file}

-- A file with these bytes is an accepted model, with this survey: it isn't too long, it reads to a structure, no two
-- bodies of the structure overlap that aren't both fixed, and it has at most 1,024 bearings, which the survey lists.
pub record IsAcceptedModel (bytes : List ℕ) (survey : Surveyed) : Type 0 where
  pub structure : Structure
  pub is_short : length bytes ≤ greatest_file
  pub reads_to : structure_of bytes ≡ Ok structure
  pub is_surveyed : IsSurvey structure survey
