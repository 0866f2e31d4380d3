use Rattle.std.proofs.Common.{sym, subst, ◌∙◌, ◌≤◌}
use Rattle.stack_table.specs.Table.{Shape, plain}
use Rattle.stack_tableau.proofs.Turns.{loop_tells, loop_stops, loop_goes_on}
use Rattle.stack_tableau.proofs.turn.run_phase.Goals as goal

pub returns-in-Ok-Stops-clause-answer : goal.returns-in-Ok-Stops-clause-answer
returns-in-Ok-Stops-clause-answer g c = loop_tells g.T.Tableau.settles g.T.Tableau.MAX c.args.phase c.args.among
    c.loop-end.pivots (g.T.Tableau.table c.loop-end.t) c.loop-end.invariant.shape c.loop-end.invariant.phase
    (g.T.Tableau.table c.take_turn.new.t) c.in-Ok-Stops.ensures.answer c.in-Ok-Stops.end c.in-Ok-Stops.field-0-is

pub returns-in-Err-clause-answer : goal.returns-in-Err-clause-answer
returns-in-Err-clause-answer g c = loop_stops g.T.Tableau.settles g.T.Tableau.MAX c.args.phase c.args.among
    c.loop-end.pivots (g.T.Tableau.table c.loop-end.t) c.loop-end.invariant.shape c.loop-end.invariant.phase
    c.in-Err.stop c.in-Err.ensures.answer

pub loop-end-preserved : goal.loop-end-preserved
loop-end-preserved g c = record {
  among = subst (λ (S : Shape). c.args.among ≤ plain S)
      (sym c.in-Ok-GoesOn.ensures.shape) c.loop-end.invariant.among;
  shape = c.in-Ok-GoesOn.ensures.shape ∙ c.loop-end.invariant.shape;
  flips = c.in-Ok-GoesOn.ensures.flips ∙ c.loop-end.invariant.flips;
  phase = loop_goes_on g.T.Tableau.settles g.T.Tableau.MAX c.args.phase c.args.among
      c.loop-end.pivots (g.T.Tableau.table c.loop-end.t) c.loop-end.invariant.shape c.loop-end.invariant.phase
      (g.T.Tableau.table c.take_turn.new.t) c.in-Ok-GoesOn.ensures.answer c.in-Ok-GoesOn.next c.in-Ok-GoesOn.field-0-is;
}
