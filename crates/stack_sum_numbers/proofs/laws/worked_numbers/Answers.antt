use Rattle.stack_sum_numbers.proofs.Worked.{worked_sums, worked_sums_at_the_limit, worked_rates, worked_powers}
use Rattle.stack_sum_numbers.proofs.laws.worked_numbers.Goals as goal

pub returns : goal.returns
returns c = record {
  sums = worked_sums;
  limit = worked_sums_at_the_limit;
  rates = worked_rates;
  powers = worked_powers;
}
