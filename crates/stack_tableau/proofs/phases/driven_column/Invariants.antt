use Rattle.std.proofs.Common.{◌≡◌, None}
use Rattle.stack_rational.proofs.Common.{first}
use Rattle.stack_tableau.proofs.RunPhases.{driven_item}
use Rattle.stack_tableau.proofs.phases.driven_column.Given as goal

-- no column so far
abbrev pub invariant-loop-j : goal.invariant-loop-j
invariant-loop-j g l = first l.j (driven_item (g.T.Tableau.shape l.t) (g.T.Tableau.table l.t) l.row) ≡ None
