use Rattle.std.proofs.Common.{ap, subst, ◌∙◌}
use Rattle.stack_rational.proofs.Common.{ordered_fractions, is_too_wide}
use Rattle.stack_table.specs.Table.{plain}
use Rattle.stack_run.specs.WrittenRun.{turns}
use Rattle.stack_tableau.specs.Tells.{TellsPhase}
use Rattle.stack_tableau.proofs.phases.third_phase.Goals as goal

pub returns-clause-answer : goal.returns-clause-answer
returns-clause-answer g c =
    let t = c.in-Some.ensures in
    let among = c.plain-among.ensures ∙ ap plain t.shape in
    subst (λ X. TellsPhase g.T.Tableau.settles (g.T.Tableau.table c.run_phase.new.t) c.run_phase.result X)
    (λ i. turns ordered_fractions (t.shape i) (is_too_wide g.T.Tableau.MAX) 3 (among i)
    c.args.pivots.left c.args.pivots.done (t.table i)) c.run_phase.ensures.answer
