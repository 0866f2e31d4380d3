use Rattle.std.proofs.Common.{max}
use Rattle.stack_rows.proofs.Listed.{IsListedTo}
use Rattle.stack_rows.proofs.stepping.small_listed.Given as goal

abbrev pub invariant-loop-i : goal.invariant-loop-i
invariant-loop-i l = IsListedTo l.fn.words l.other l.list l.count l.less l.i l.words (max l.top l.size)
