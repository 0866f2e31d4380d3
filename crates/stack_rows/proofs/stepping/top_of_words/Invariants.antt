use Rattle.stack_rows.specs.RowForm.{IsPartTopped}
use Rattle.stack_rows.proofs.stepping.top_of_words.Given as goal

abbrev pub invariant-loop-j : goal.invariant-loop-j
invariant-loop-j l = IsPartTopped 0 l.j l.words l.top
