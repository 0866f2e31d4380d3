use Rattle.std.proofs.Common.{◌≡◌}
use Rattle.stack_rational.proofs.Common.{ordered_fractions, is_too_wide}
use Rattle.stack_table.specs.Table.{clear_objective}
use Rattle.stack_run.specs.WrittenRun.{complete, drives}
use Rattle.stack_tableau.proofs.phases.second_phase.Given as goal

-- the rows so far
abbrev pub invariant-loop-row : goal.invariant-loop-row
invariant-loop-row g l = let S = g.T.Tableau.shape l.fn.t in record {
  shape : g.T.Tableau.shape l.t ≡ S;
  flips : g.T.Tableau.flips l.t ≡ g.T.Tableau.flips l.fn.t;
  rows : drives ordered_fractions S (is_too_wide g.T.Tableau.MAX) l.row l.fn.pivots.left l.fn.pivots.done
      (clear_objective ordered_fractions S (g.T.Tableau.table l.fn.t)) ≡ complete l.pivots.left l.pivots.done
      (g.T.Tableau.table l.t);
}
