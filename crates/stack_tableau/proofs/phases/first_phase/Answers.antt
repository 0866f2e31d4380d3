use Rattle.std.proofs.Common.{sym, ap, ◌∙◌}
use Rattle.stack_rational.proofs.Common.{ordered_fractions, is_too_wide}
use Rattle.stack_run.specs.WrittenRun.{turns}
use Rattle.stack_run.specs.declared.stops.PhaseEnd.{PhaseEnd}
use Rattle.stack_run.specs.PhaseStops.{stop_of}
use Rattle.stack_tableau.proofs.RunPhases.{never_unlimited}
use Rattle.stack_tableau.proofs.phases.first_phase.Goals as goal

pub unreachable-requires : goal.unreachable-requires
unreachable-requires g c =
    let m = g.T.Tableau.MAX in
    let S = g.T.Tableau.shape c.args.t.now in
    let T = g.T.Tableau.table c.args.t.now in
    let U = g.T.Tableau.table c.run_phase.new.t in
    never_unlimited m S T c.args.budget c.run_laws.ensures.leaving c.requires U
    c.in-Ok-Unlimited.field-0-0 (ap (λ (x : PhaseEnd). stop_of U x) (sym c.in-Ok-Unlimited.field-0-is)
    ∙ c.in-Ok-Unlimited.ensures.answer
    ∙ (λ i. turns ordered_fractions S (is_too_wide m) 1 (c.contacts-contacts.ensures i)
    (c.within.ensures.left i) (c.within.ensures.done i) T))
