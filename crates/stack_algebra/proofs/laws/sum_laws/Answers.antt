use Rattle.stack_algebra.proofs.IntegerRing.{integers}
use Rattle.stack_algebra.proofs.Sums.{sum_add, sum_scale, sum_swap, over-index, sum_plus}
use Rattle.stack_algebra.proofs.Indices.{sum_pairs, sum_threes}
use Rattle.stack_algebra.proofs.laws.sum_laws.Goals as goal

pub returns : goal.returns
returns c = record {
  sum_add = sum_add integers;
  sum_scale = sum_scale integers;
  sum_swap = sum_swap integers;
  over-index = over-index integers;
  sum_plus = sum_plus integers;
  sum_pairs = sum_pairs;
  sum_threes = sum_threes;
}
