use Rattle.std.proofs.Common.{sym, ap, ◌∙◌}
use Rattle.std.proofs.lemmas.Result.{err_from_is_err_and}
use Rattle.stack_algebra.proofs.Steps.{step_on, step_out, steps_done}
use Rattle.stack_equilibrium.specs.WrittenSums.{bearing_at}
use Rattle.stack_equilibrium.proofs.sums.add_bearings.Goals as goal

pub returns-in_err-so_far : goal.returns-in_err-so_far
returns-in_err-so_far c =
    let p = err_from_is_err_and c.from_residual.result c.from_residual.ensures.1 in
    let step = bearing_at c.args.axis c.args.block c.args.parts.now in
    let added = rw c.push_of.ensures at c.add_bearing.ensures in
    rw (p.1, p.2) (step_out step c.args.bearings.now c.loop-k.k c.loop-k.so_far _ c.in_err-so_far.field-0.0 _
    c.loop-k-test.true
    (ap (step c.loop-k.k c.loop-k.so_far) (sym c.index-bearings-k.is) ∙ sym added ∙ c.in_err-so_far.was)
    c.loop-k.invariant)

pub loop-k-preserved : goal.loop-k-preserved
loop-k-preserved c =
    let step = bearing_at c.args.axis c.args.block c.args.parts.now in
    let added = rw c.push_of.ensures at c.add_bearing.ensures in
    step_on step c.args.bearings.now c.loop-k.k c.loop-k.so_far c.in_ok-so_far.so_far _ _ c.loop-k-test.true
    (ap (step c.loop-k.k c.loop-k.so_far) (sym c.index-bearings-k.is) ∙ sym added ∙ c.in_ok-so_far.was)
    c.loop-k.invariant

pub returns : goal.returns
returns c = steps_done (bearing_at c.args.axis c.args.block c.args.parts.now) c.args.bearings.now c.loop-k.k
    c.loop-k.so_far _ c.loop-k-test.false c.loop-k.invariant
