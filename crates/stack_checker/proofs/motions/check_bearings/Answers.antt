use Rattle.std.proofs.Common.{sym, ap, ◌∙◌}
use Rattle.std.proofs.lemmas.Result.{err_from_is_err_and}
use Rattle.stack_equilibrium.proofs.Common.{motion_view, step_on, step_out, steps}
use Rattle.stack_algebra.proofs.Steps.{steps_done}
use Rattle.stack_checker.specs.WrittenMotions.{resistance_at}
use Rattle.stack_checker.proofs.motions.check_bearings.Goals as goal

pub returns-in_err-check_bearing : goal.returns-in_err-check_bearing
returns-in_err-check_bearing c =
    let p = err_from_is_err_and c.from_residual.result c.from_residual.ensures.1 in
    let f = resistance_at c.args.s.now (motion_view c.args.motion.now) in
    rw (p.1, p.2)
    (step_out f c.bearings-bearing-items.result.now c.loop-k.k tt _ c.in_err-check_bearing.field-0.0 _
    c.loop-k-test.true (ap (f c.loop-k.k tt) (sym c.bearing-item.is) ∙ sym c.check_bearing.ensures
    ∙ c.in_err-check_bearing.was) c.loop-k.invariant
    ∙ ap (steps f 0 tt) c.bearings-bearing-items.ensures.value)

pub loop-k-preserved : goal.loop-k-preserved
loop-k-preserved c =
    let f = resistance_at c.args.s.now (motion_view c.args.motion.now) in
    step_on f c.bearings-bearing-items.result.now c.loop-k.k tt tt _ _ c.loop-k-test.true
    (ap (f c.loop-k.k tt) (sym c.bearing-item.is) ∙ sym c.check_bearing.ensures
    ∙ c.in_ok-check_bearing.was) c.loop-k.invariant

pub returns : goal.returns
returns c =
    let f = resistance_at c.args.s.now (motion_view c.args.motion.now) in
    steps_done f c.bearings-bearing-items.result.now c.loop-k.k tt _ c.loop-k-test.false c.loop-k.invariant
    ∙ ap (steps f 0 tt) c.bearings-bearing-items.ensures.value
