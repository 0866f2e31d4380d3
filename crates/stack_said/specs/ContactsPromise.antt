-- What `contacts MODEL` promises, on the survey of its model: its table, and nothing else.
use Rattle.std.specs.Prelude.{◌≡◌, ⊤, Ok}
use Rattle.stack_contact.specs.Surveyed.{Surveyed}
use Rattle.stack_report.specs.ContactTable.{contacts_text}
use Rattle.stack_lines.specs.declared.answer.Verdict.TheVariants.{Affirmed}
use Rattle.stack_work.specs.Answers.{exactly}
use Rattle.stack_said.specs.Promise.{Promise}

pub data ContactsCase : Type 0 where
  has_table : ContactsCase

abbrev pub contacts_promise : Promise Surveyed
contacts_promise = record {
  Case = ContactsCase;
  IsStatus = λ x n. n ≡ 0;
  Comes = λ v x. ⊤;
  IsDue = λ v x e. e ≡ Ok (exactly Affirmed (contacts_text v));
}
