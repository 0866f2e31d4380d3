-- The work on `contacts MODEL`: the survey of the model, and its table.
use Rattle.std.specs.Prelude.{ℕ, List}
use Rattle.stack_contact.specs.Surveyed.{Surveyed}
use Rattle.stack_report.specs.ContactTable.{contacts_text}
use Rattle.stack_lines.specs.declared.answer.Verdict.TheVariants.{Affirmed}
use Rattle.stack_work.specs.Answers.{Due, exactly}
use Rattle.stack_work.specs.Work.{Work, gives, ◌>>=◌}
use Rattle.stack_work.specs.Surveying.{surveyed_file}

-- The table of the contacts of a survey is due.
abbrev pub contacts_due : Surveyed → Work Due
contacts_due survey = gives (exactly Affirmed (contacts_text survey))

-- The model's file is surveyed, and then its contacts are listed.
unfoldable pub contacts_work : List ℕ → Work Due
contacts_work model = do
  survey ← surveyed_file model
  contacts_due survey
