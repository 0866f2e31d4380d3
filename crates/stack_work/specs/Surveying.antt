-- The work that most forms begin with: a model's file, its text, its survey.
use Rattle.std.specs.Prelude.{ℕ, List, length, map, Result, Ok, Err, nat_lt, if◌then◌else◌}
use Rattle.stack_model.specs.Structure.{Structure, body_of}
use Rattle.stack_reader.specs.declared.errors.ReadError.{ReadError}
use Rattle.stack_reader.specs.Reading.{structure_of}
use Rattle.stack_contact.specs.Surveyed.{Surveyed}
use Rattle.stack_contact.specs.declared.types.SurveyError.{SurveyError}
use Rattle.stack_contact.specs.declared.types.SurveyError.TheVariants as surveying
use Rattle.stack_lines.specs.declared.refusal.Input.{Input}
use Rattle.stack_lines.specs.declared.refusal.Input.TheVariants as inputs
use Rattle.stack_lines.specs.Refusals.{Fault, long, overlap, many_bearings, memory}
use Rattle.stack_lines.specs.Errors.{from_read}
use Rattle.stack_work.specs.Work.{Work, gives, refuses, reads, surveys, ◌>>=◌, Found}

-- A file of more bytes than this is refused.
abbrev pub greatest_file : ℕ
greatest_file = 262144

-- The bytes of a file, unless they are too many.
abbrev pub unless_long : Input → List ℕ → Work (List ℕ)
unless_long input bytes = if nat_lt greatest_file (length bytes) then refuses (long input) else gives bytes

-- A file is asked for by its name, and refused if it is too long.
abbrev pub read : Input → List ℕ → Work (List ℕ)
read input name = reads input name (unless_long input)

-- The structure that a text describes, or the fault for which it describes none.
abbrev pub model_step : Result Structure ReadError → Work Structure
model_step (Ok s) = gives s
model_step (Err e) = refuses (from_read e)

-- The names of all bodies, in the order of the model.
abbrev pub structure_names : Structure → List (List ℕ)
structure_names s = map (λ b. b.name) s.bodies

-- The survey of a structure. Bodies that overlap go by their names.
abbrev pub from_survey : Structure → SurveyError → Fault
from_survey s (surveying.Overlap first second) = overlap (body_of s first).name (body_of s second).name
from_survey s (surveying.TooManyBearings count) = many_bearings count
from_survey s surveying.Memory = memory

-- The survey of a structure, or why it isn't made.
abbrev pub survey_step : Structure → Found → Work Surveyed
survey_step s (Ok v) = gives v
survey_step s (Err e) = refuses (from_survey s e)

-- A model's file, up to its text, and up to its survey.
unfoldable pub modelled : List ℕ → Work Structure
modelled name = do
  text ← read inputs.Model name
  model_step (structure_of text)

-- The structure that a model's file describes is surveyed.
unfoldable pub surveyed_file : List ℕ → Work Surveyed
surveyed_file name = do
  s ← modelled name
  surveys s (survey_step s)
