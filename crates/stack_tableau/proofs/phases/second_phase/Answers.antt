use Rattle.std.proofs.Common.{ap, ◌∙◌, arith}
use Rattle.stack_rational.proofs.Common.{ordered_fractions}
use Rattle.stack_table.specs.Table.{Shape, clear_objective}
use Rattle.stack_tableau.proofs.RunPhases.{row_stops, row_settles}
use Rattle.stack_tableau.proofs.phases.second_phase.Goals as goal

pub returns-in-Err-clause-answer : goal.returns-in-Err-clause-answer
returns-in-Err-clause-answer g c =
    let S = g.T.Tableau.shape c.args.t.now in
    let t = c.loop-row.t in
    let rows = ap (λ (S : Shape). S.rows) c.in-Some.ensures.shape in
    row_stops g.T.Tableau.settles g.T.Tableau.MAX S (g.T.Tableau.shape t) (clear_objective ordered_fractions S
    (g.T.Tableau.table c.args.t.now))
    (g.T.Tableau.table t) S.rows c.loop-row.row c.args.pivots
    c.loop-row.pivots c.loop-row.invariant.shape c.loop-row.invariant.rows c.in-Err.stop
    (omega (arith, c.loop-row-test.true, c.rows-row-end.ensures, rows)) c.in-Err.ensures.answer

pub loop-row-preserved : goal.loop-row-preserved
loop-row-preserved g c =
    let S = g.T.Tableau.shape c.args.t.now in
    let t = c.loop-row.t in
    let i = c.loop-row.invariant in record {
      shape = c.in-Ok.ensures.shape ∙ i.shape;
      flips = c.in-Ok.ensures.flips ∙ i.flips;
      rows = row_settles g.T.Tableau.settles g.T.Tableau.MAX S (g.T.Tableau.shape t)
          (clear_objective ordered_fractions S (g.T.Tableau.table c.args.t.now))
          (g.T.Tableau.table t) S.rows c.loop-row.row
          c.args.pivots c.loop-row.pivots i.shape i.rows c.in-Ok.next (g.T.Tableau.table c.drive_row.new.t)
          c.in-Ok.ensures.answer;
    }
