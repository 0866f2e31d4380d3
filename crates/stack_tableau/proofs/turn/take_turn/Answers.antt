use Rattle.std.proofs.Common.{sym, ap, subst, ◌∙◌}
use Rattle.stack_rational.proofs.Common.{ordered_fractions, is_too_wide}
use Rattle.stack_table.specs.Table.{Shape}
use Rattle.stack_run.specs.WrittenRun.{choose}
use Rattle.stack_run.specs.PhaseStops.{phase_from}
use Rattle.stack_tableau.specs.Tells.{choice_of, TellsStop}
use Rattle.stack_tableau.proofs.Turns.{pivot_stops, goes_on}
use Rattle.stack_tableau.proofs.turn.take_turn.Goals as goal

pub returns-in-Err-due_pivot-clause-answer : goal.returns-in-Err-due_pivot-clause-answer
returns-in-Err-due_pivot-clause-answer g c =
    let m = g.T.Tableau.MAX in
    let t = c.choose.new.t in
    let p = c.in-Ok-Due.ensures.shape in
    let q = c.in-Ok-Due.ensures.table in
    let e = ap choice_of (sym c.in-Ok-Due.field-0-is) ∙ c.in-Ok-Due.ensures.tells
    ∙ sym (λ z. choose ordered_fractions (p z) (is_too_wide m) (q z) c.args.among) in
    subst (TellsStop g.T.Tableau.settles c.in-Err-due_pivot.stop)
    (λ z. phase_from m (p z) c.args.phase c.args.among c.args.pivots (q z))
    (pivot_stops g.T.Tableau.settles m (g.T.Tableau.shape t) c.args.phase c.args.among (g.T.Tableau.table t)
    c.in-Ok-Due.row c.in-Ok-Due.column e c.args.pivots c.in-Err-due_pivot.stop c.in-Err-due_pivot.ensures.counted)

pub returns-in-Ok-clause-answer : goal.returns-in-Ok-clause-answer
returns-in-Ok-clause-answer g c =
    let m = g.T.Tableau.MAX in
    let t = c.choose.new.t in
    let u = c.due_pivot.new.t in
    let p = c.in-Ok-Due.ensures.shape in
    let q = c.in-Ok-Due.ensures.table in
    let e = ap choice_of (sym c.in-Ok-Due.field-0-is) ∙ c.in-Ok-Due.ensures.tells
    ∙ sym (λ z. choose ordered_fractions (p z) (is_too_wide m) (q z) c.args.among) in
    ap (λ (S : Shape). phase_from m S c.args.phase c.args.among c.in-Ok.next (g.T.Tableau.table u)) (sym p)
    ∙ goes_on g.T.Tableau.settles m (g.T.Tableau.shape t) c.args.phase c.args.among (g.T.Tableau.table t)
    c.in-Ok-Due.row c.in-Ok-Due.column e c.args.pivots c.in-Ok.next (g.T.Tableau.table u) c.in-Ok.ensures.counted
    c.in-Ok.ensures.table
    ∙ (λ z. phase_from m (p z) c.args.phase c.args.among c.args.pivots (q z))
