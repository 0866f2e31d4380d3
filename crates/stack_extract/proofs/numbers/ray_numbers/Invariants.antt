use Rattle.std.proofs.Common.{◌≡◌}
use Rattle.stack_rational.proofs.Common.{listed}
use Rattle.stack_extract.specs.WrittenLists.{ray_number}
use Rattle.stack_extract.proofs.numbers.ray_numbers.Given as goal

abbrev pub invariant-loop-column : goal.invariant-loop-column
invariant-loop-column g l = l.numbers.items ≡ listed l.column
    (ray_number (g.L.LastTable.shape l.t) (g.L.LastTable.table l.t) l.entering)
