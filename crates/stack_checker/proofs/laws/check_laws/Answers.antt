use Rattle.stack_checker.proofs.Verdicts.{accepted_is_true, rejected_is_false, true_is_accepted}
use Rattle.stack_checker.proofs.laws.check_laws.Goals as goal

pub returns : goal.returns
returns c = record { accepted = accepted_is_true; rejected = rejected_is_false; true_one = true_is_accepted }
