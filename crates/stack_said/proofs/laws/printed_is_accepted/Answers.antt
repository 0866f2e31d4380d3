use Rattle.stack_said.proofs.PrintedAccepted.{printed_accepted, printed_short}
use Rattle.stack_said.proofs.laws.printed_is_accepted.Goals as goal

pub returns-clause-accepted : goal.returns-clause-accepted
returns-clause-accepted c = printed_accepted c.one_reading.ensures.reads c.short_text.ensures

pub returns-clause-short : goal.returns-clause-short
returns-clause-short c = printed_short c.short_text.ensures
