use Rattle.stack_sum_numbers.proofs.RatesMade.{rates_are_made}
use Rattle.stack_sum_numbers.proofs.laws.rate_number_laws.Goals as goal

pub returns : goal.returns
returns c = rates_are_made
