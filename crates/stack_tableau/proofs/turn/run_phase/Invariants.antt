use Rattle.std.proofs.Common.{◌≡◌, ◌≤◌}
use Rattle.stack_table.specs.Table.{plain}
use Rattle.stack_run.specs.PhaseStops.{phase_from}
use Rattle.stack_tableau.proofs.turn.run_phase.Given as goal

-- what was to be done is what is left to do
abbrev pub invariant-loop-end : goal.invariant-loop-end
invariant-loop-end g l = record {
  among : l.among ≤ plain (g.T.Tableau.shape l.t);
  shape : g.T.Tableau.shape l.t ≡ g.T.Tableau.shape l.fn.t;
  flips : g.T.Tableau.flips l.t ≡ g.T.Tableau.flips l.fn.t;
  phase : phase_from g.T.Tableau.MAX (g.T.Tableau.shape l.fn.t) l.phase l.among l.pivots (g.T.Tableau.table l.t)
      ≡ phase_from g.T.Tableau.MAX (g.T.Tableau.shape l.fn.t) l.phase l.among l.fn.pivots (g.T.Tableau.table l.fn.t);
}

abbrev pub decreases-loop-end : goal.decreases-loop-end
decreases-loop-end g l = l.pivots.left
