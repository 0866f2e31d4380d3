use Rattle.stack_posing.specs.Columns.{AreColumns}
use Rattle.stack_posing.proofs.posing.contact_columns.Given as goal

abbrev pub invariant-loop-k : goal.invariant-loop-k
invariant-loop-k l = AreColumns l.s l.k l.columns.items
