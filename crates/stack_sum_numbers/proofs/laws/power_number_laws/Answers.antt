use Rattle.stack_sum_numbers.proofs.PowersMade.{power_is_made, work_is_made}
use Rattle.stack_sum_numbers.proofs.laws.power_number_laws.Goals as goal

pub returns : goal.returns
returns c = record { scene = power_is_made; frees = work_is_made }
