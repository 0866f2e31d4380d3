use Rattle.stack_rows.proofs.Numbers.{of_zeros}
use Rattle.stack_rows.proofs.entries.Entries.zeros.Goals as goal

pub invariant_of-result-clause-marked : goal.invariant_of-result-clause-marked
invariant_of-result-clause-marked c = record {
  nothing = λ j z. rw (c.in_ok-words.ensures.items_if_clones_equal (λ y h. h)) (of_zeros _ j);
  within = λ j l. c.in_ok-marks.ensures.nothing j;
}
