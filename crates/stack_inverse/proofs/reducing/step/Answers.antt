use Rattle.std.proofs.Common.{arith, rules, sym, ap, length, ◌∙◌, SFits, to_z-of_z}
use Rattle.stack_rational.proofs.Common.{w128}
use Rattle.stack_rows.specs.RowSeen.{numbers_of}
use Rattle.stack_inverse.proofs.Steps.{row_by_tops}
use Rattle.stack_inverse.proofs.RowByCells.{row_by_cells}
use Rattle.stack_inverse.proofs.reducing.step.Goals as goal

pub take_small-requires-clause-small : goal.take_small-requires-clause-small
take_small-requires-clause-small c =
    let step = c.in-Some-small_step.ensures in
    λ j l. rw (step.times, step.less) (step.small j (omega (arith, l, c.requires.width)))

pub returns-in-Some-take_small-clause-ok : goal.returns-in-Some-take_small-clause-ok
returns-in-Some-take_small-clause-ok c = λ column hf.
    let f = c.args.first.now in
    let r = c.args.row.now.row in
    let q = c.args.pivot.now.divided.row in
    let k = c.in-Some.factors in
    let step = c.in-Some-small_step.ensures in
    let new = c.take_small.new.self in
    row_by_tops f.rows f.columns.items (numbers_of r) r.under r.positive (numbers_of new) (numbers_of q) new.under
    q.under k.times k.less c.args.number column q.positive c.in-Some.ensures.some hf
    (rw (to_z-of_z c.ranges.number, c.requires.divider) at c.in-Some.ensures.cross)
    (rw (step.times, step.less) at c.in-Some-take_small.ensures.ok) f.top c.args.pivot.now.whole_top f.first c.args.i
    step.fits c.requires.pivot.within

pub returns-in-Some-take-clause-ok : goal.returns-in-Some-take-clause-ok
returns-in-Some-take-clause-ok c = λ column hf.
    let f = c.args.first.now in
    let r = c.args.row.now.row in
    let q = c.args.pivot.now.divided.row in
    let k = c.in-Some.factors in
    let new = c.take.new.self in
    row_by_tops f.rows f.columns.items (numbers_of r) r.under r.positive (numbers_of new) (numbers_of q) new.under
    q.under k.times k.less c.args.number column q.positive c.in-Some.ensures.some hf
    (rw (to_z-of_z c.ranges.number, c.requires.divider) at c.in-Some.ensures.cross)
    (rw (c.fits_for.ensures.numbers, c.fits_for.ensures.under) at c.in-Some-take.ensures.ok) f.top
    c.args.pivot.now.whole_top f.first c.args.i (c.fits_for.ensures.fits c.if-fits_for.true)
    c.requires.pivot.within

pub returns-in-Ok-clause-ok : goal.returns-in-Ok-clause-ok
returns-in-Ok-clause-ok c = λ column hf.
    let f = c.args.first.now in
    let r = c.args.row.now.row in
    let q = c.args.pivot.now.divided.row in
    let new = c.step_by_cells.new.row.row in
    let same = c.fits_for.ensures in
    let own : SFits w128 r.under = search rules in
    let other : SFits w128 q.under = search rules in
    row_by_cells f.rows f.columns.items (numbers_of r) r.under r.positive (numbers_of new) (numbers_of q) new.under
    q.under c.args.number c.args.i column q.positive c.under_fits.ensures hf
    (rw (same.numbers, same.under, to_z-of_z own, to_z-of_z other, to_z-of_z c.ranges.number) at c.in-Ok.ensures.ok)
    (rw (same.numbers, same.under, to_z-of_z own, to_z-of_z c.ranges.number) at c.in-Ok.ensures.none)

pub returns-in-Err-clause-refused : goal.returns-in-Err-clause-refused
returns-in-Err-clause-refused c = λ column hf.
    let r = c.args.row.now.row in
    let own : SFits w128 r.under = search rules in
    rw (c.fits_for.ensures.numbers, c.fits_for.ensures.under, to_z-of_z own, to_z-of_z c.ranges.number, hf)
    at c.in-Err.ensures.refused

pub take_small-requires-clause-width : goal.take_small-requires-clause-width
take_small-requires-clause-width c = c.requires.pivot.width ∙ sym c.requires.width

pub take-requires : goal.take-requires
take-requires c = rw c.fits_for.ensures.numbers (c.requires.pivot.width ∙ sym c.requires.width)

pub step_by_cells-requires-clause-width : goal.step_by_cells-requires-clause-width
step_by_cells-requires-clause-width c = rw c.fits_for.ensures.numbers c.requires.width

pub step_by_cells-requires-clause-under : goal.step_by_cells-requires-clause-under
step_by_cells-requires-clause-under c =
    let own : SFits w128 c.fits_for.new.row.under = search rules in
    to_z-of_z own

pub step_by_cells-requires-clause-pivot_under : goal.step_by_cells-requires-clause-pivot_under
step_by_cells-requires-clause-pivot_under c =
    let other : SFits w128 c.args.pivot.now.divided.row.under = search rules in
    to_z-of_z other

pub returns-in-Some-take-clause-width : goal.returns-in-Some-take-clause-width
returns-in-Some-take-clause-width c = rw c.fits_for.ensures.numbers at c.take.ensures.width

pub returns-in-None-take-clause-width : goal.returns-in-None-take-clause-width
returns-in-None-take-clause-width c = rw c.fits_for.ensures.numbers at c.take.ensures.width

pub returns-in-None-cell-clause-width : goal.returns-in-None-cell-clause-width
returns-in-None-cell-clause-width c = ap length c.fits_for.ensures.numbers

pub returns-in-Ok-clause-width : goal.returns-in-Ok-clause-width
returns-in-Ok-clause-width c = rw c.fits_for.ensures.numbers at c.step_by_cells.ensures.width

pub returns-in-Err-clause-width : goal.returns-in-Err-clause-width
returns-in-Err-clause-width c = rw c.fits_for.ensures.numbers at c.step_by_cells.ensures.width
