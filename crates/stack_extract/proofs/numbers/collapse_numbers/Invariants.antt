use Rattle.std.proofs.Common.{◌≡◌, None}
use Rattle.stack_rational.proofs.Common.{first, listed}
use Rattle.stack_extract.specs.WrittenLists.{collapse_number}
use Rattle.stack_extract.specs.Places.{shift_spot}
use Rattle.stack_extract.proofs.numbers.collapse_numbers.Given as goal

abbrev pub invariant-loop-row : goal.invariant-loop-row
invariant-loop-row g l =
    (l.numbers.items ≡ listed l.row (collapse_number (g.L.LastTable.shape l.t) (g.L.LastTable.table l.t)))
    × (first l.row (shift_spot (g.L.LastTable.shape l.t) (g.L.LastTable.table l.t)) ≡ None)
