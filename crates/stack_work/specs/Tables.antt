-- The work on `table MODEL CERT`: that on a certificate, of which the table of the model's contacts and that of the
-- certificate's forces and moves are due.
use Rattle.std.specs.Prelude.{ℕ, List, ◌++◌, Option, Some, None}
use Rattle.stack_contact.specs.Surveyed.{Surveyed}
use Rattle.stack_certificate.specs.Certificate.{CertificateValue}
use Rattle.stack_report.specs.ContactTable.{contacts_text}
use Rattle.stack_report.specs.ForceTable.{forces_text}
use Rattle.stack_report.specs.ForceNumbers.{wide_index}
use Rattle.stack_lines.specs.declared.answer.Verdict.TheVariants.{Affirmed}
use Rattle.stack_lines.specs.Refusals.{wide_table}
use Rattle.stack_work.specs.Answers.{Due, exactly}
use Rattle.stack_work.specs.declared.form.Asked.{Asked}
use Rattle.stack_work.specs.declared.form.Asked.TheVariants.{Acceptance, Tables}
use Rattle.stack_work.specs.Checking.{Accepting, certificate_work, accepted_due}
use Rattle.stack_work.specs.Work.{Work, gives, refuses}

-- The contacts of the model come first, and then the forces and the moves of the certificate.
abbrev pub tables_text : Surveyed → CertificateValue → List ℕ
tables_text v c = contacts_text v ++ forces_text v c

-- The two tables, unless a number of the second is too wide.
abbrev pub tabled_by : Surveyed → CertificateValue → Option ℕ → Work Due
tabled_by v c None = gives (exactly Affirmed (tables_text v c))
tabled_by v c (Some index) = refuses (wide_table index)

-- An accepted certificate: both tables, or the first number of the second that is too wide.
abbrev pub table_due : Accepting
table_due v c = tabled_by v c (wide_index v c)

-- The work on `table MODEL CERT`.
abbrev pub table_work : List ℕ → List ℕ → Work Due
table_work model certificate = certificate_work table_due model certificate

-- What is due by what is asked.
abbrev pub due_of : Asked → Accepting
due_of Acceptance = accepted_due
due_of Tables = table_due
