use Rattle.stack_sum_numbers.proofs.Chains.{one_too_wide_or_all_fit}
use Rattle.stack_sum_numbers.proofs.laws.fitting_list_law.Goals as goal

pub returns : goal.returns
returns c = one_too_wide_or_all_fit
