use Rattle.std.proofs.Common.{sym, ap, ◌∙◌}
use Rattle.std.proofs.lemmas.Result.{err_from_is_err_and}
use Rattle.stack_algebra.proofs.Steps.{step_on, step_out}
use Rattle.stack_checker.specs.WrittenForces.{cone_at}
use Rattle.stack_checker.proofs.cones.check_cones.Goals as goal

pub returns-in_err-check_bearing : goal.returns-in_err-check_bearing
returns-in_err-check_bearing c =
    let p = err_from_is_err_and c.from_residual.result c.from_residual.ensures.1 in
    let f = cone_at c.args.parts.now in
    rw (p.1, p.2) (step_out f c.args.bearings.now c.loop-k.k tt _ c.in_err-check_bearing.field-0.0 _
    c.loop-k-test.true (ap (f c.loop-k.k tt) (sym c.index-bearings-k.is) ∙ sym c.check_bearing.ensures
    ∙ c.in_err-check_bearing.was) c.loop-k.invariant)

pub loop-k-preserved : goal.loop-k-preserved
loop-k-preserved c = let f = cone_at c.args.parts.now in
    step_on f c.args.bearings.now c.loop-k.k tt tt _ _ c.loop-k-test.true
    (ap (f c.loop-k.k tt) (sym c.index-bearings-k.is) ∙ sym c.check_bearing.ensures
    ∙ c.in_ok-check_bearing.was) c.loop-k.invariant
