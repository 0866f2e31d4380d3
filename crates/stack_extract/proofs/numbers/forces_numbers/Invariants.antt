use Rattle.std.proofs.Common.{◌≡◌}
use Rattle.stack_rational.proofs.Common.{listed}
use Rattle.stack_extract.specs.WrittenLists.{forces_number}
use Rattle.stack_extract.proofs.numbers.forces_numbers.Given as goal

abbrev pub invariant-loop-column : goal.invariant-loop-column
invariant-loop-column g l = l.numbers.items ≡ listed l.column
    (forces_number (g.L.LastTable.shape l.t) (g.L.LastTable.table l.t))
