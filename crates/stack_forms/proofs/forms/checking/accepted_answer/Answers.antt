use Rattle.stack_forms.proofs.forms.checking.accepted_answer.Goals as goal

pub returns-in-Acceptance : goal.returns-in-Acceptance
returns-in-Acceptance c = rw c.in-Acceptance.is c.check_answer.ensures

pub returns-in-Tables : goal.returns-in-Tables
returns-in-Tables c = rw c.in-Tables.is c.tables.ensures
