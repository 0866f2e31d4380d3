use Rattle.std.proofs.Common.{◌≡◌, eqb, None}
use Rattle.stack_rational.proofs.Common.{first, only_if}
use Rattle.stack_extract.proofs.numbers.basic_row.Given as goal

abbrev pub invariant-loop-row : goal.invariant-loop-row
invariant-loop-row g l = first l.row (λ i. only_if (eqb ((g.L.LastTable.table l.t).basic i) l.column) i) ≡ None
