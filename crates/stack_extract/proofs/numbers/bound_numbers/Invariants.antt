use Rattle.std.proofs.Common.{◌≡◌}
use Rattle.stack_rational.proofs.Common.{listed}
use Rattle.stack_extract.specs.WrittenLists.{bound_number}
use Rattle.stack_extract.proofs.numbers.bound_numbers.Given as goal

abbrev pub invariant-loop-row : goal.invariant-loop-row
invariant-loop-row g l = l.numbers.items ≡ listed l.row
    (bound_number (g.L.LastTable.shape l.t) (g.L.LastTable.table l.t))
