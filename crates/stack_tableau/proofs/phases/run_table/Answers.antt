use Rattle.std.proofs.Common.{sym, ap, ◌∙◌, cond}
use Rattle.stack_run.specs.PhaseStops.{stop_of}
use Rattle.stack_tableau.proofs.RunPhases.{IsPastFirst, IsPastSecond, first_stops, second_stops, third_is, third_stops}
use Rattle.stack_tableau.proofs.phases.run_table.Goals as goal
use Rattle.stack_tableau.proofs.phases.run_table.Goals.{After-second_phase, In-Ok-second_phase}

pub returns-in-Err-clause-value : goal.returns-in-Err-clause-value
returns-in-Err-clause-value g c = let s = c.args.t.now in
    first_stops g.T.Tableau.settles g.T.Tableau.MAX (g.T.Tableau.shape s) (g.T.Tableau.table s) c.args.budget
    c.in-Err.stop
    c.in-Err.ensures.answer

past_first : (g : _) (c : After-second_phase g) → IsPastFirst g.T.Tableau.MAX (g.T.Tableau.shape c.args.t.now)
    (g.T.Tableau.shape c.first_phase.new.t) (g.T.Tableau.table c.args.t.now) (g.T.Tableau.table c.first_phase.new.t)
    c.args.budget c.in-Ok.pivots
past_first g c = record {
  same = c.in-Ok.ensures.shape;
  first = c.in-Ok.ensures.answer;
  enough = sym c.falls_short.ensures ∙ c.if-falls_short.false;
  factor = c.has_factor.ensures ∙ ap (λ b. cond b 1 0) c.if-not-has_factor.false;
}

past_second : (g : _) (c : In-Ok-second_phase g) → IsPastSecond g.T.Tableau.MAX
    (g.T.Tableau.shape c.first_phase.new.t) (g.T.Tableau.shape c.second_phase.new.t)
    (g.T.Tableau.table c.first_phase.new.t) (g.T.Tableau.table c.second_phase.new.t) c.in-Ok.pivots
    c.in-Ok-second_phase.pivots
past_second g c = record {
  same = c.in-Ok-second_phase.ensures.shape;
  second = c.in-Ok-second_phase.ensures.answer;
}

pub returns-in-Err-second_phase-clause-value : goal.returns-in-Err-second_phase-clause-value
returns-in-Err-second_phase-clause-value g c = second_stops g.T.Tableau.settles
    (past_first g (goal.at.returns-in-Err-second_phase-clause-value g c).After-second_phase)
    c.in-Err-second_phase.stop c.in-Err-second_phase.ensures.answer

pub returns-in-Ok-Complete-clause-value : goal.returns-in-Ok-Complete-clause-value
returns-in-Ok-Complete-clause-value g c = let p = goal.at.returns-in-Ok-Complete-clause-value g c in
    third_is g.T.Tableau.settles (past_first g p.After-second_phase) (past_second g p.In-Ok-second_phase) _
    (ap (stop_of (g.T.Tableau.table c.third_phase.new.t)) (sym c.in-Ok-Complete.field-0-is)
    ∙ c.in-Ok-Complete.ensures.answer)

pub returns-in-Ok-Unlimited-clause-value : goal.returns-in-Ok-Unlimited-clause-value
returns-in-Ok-Unlimited-clause-value g c = let p = goal.at.returns-in-Ok-Unlimited-clause-value g c in
    third_is g.T.Tableau.settles (past_first g p.After-second_phase) (past_second g p.In-Ok-second_phase) _
    (ap (stop_of (g.T.Tableau.table c.third_phase.new.t)) (sym c.in-Ok-Unlimited.field-0-is)
    ∙ c.in-Ok-Unlimited.ensures.answer)

pub returns-in-Err-third_phase-clause-value : goal.returns-in-Err-third_phase-clause-value
returns-in-Err-third_phase-clause-value g c = let p = goal.at.returns-in-Err-third_phase-clause-value g c in
    third_stops g.T.Tableau.settles (past_first g p.After-second_phase) (past_second g p.In-Ok-second_phase)
    c.in-Err-third_phase.stop c.in-Err-third_phase.ensures.answer
