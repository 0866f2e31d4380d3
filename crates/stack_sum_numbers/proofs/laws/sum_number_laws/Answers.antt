use Rattle.stack_sum_numbers.proofs.SumsMade.{sum_is_made, ends_in_the_sum}
use Rattle.stack_sum_numbers.proofs.ThreeSums.{sums_are_made, survey_sums_are_made}
use Rattle.stack_sum_numbers.proofs.laws.sum_number_laws.Goals as goal

pub returns : goal.returns
returns c = record {
  one = sum_is_made;
  last = ends_in_the_sum;
  three = sums_are_made;
  survey = survey_sums_are_made;
}
