use Rattle.std.proofs.Common.{rules, SFits, to_z-of_z}
use Rattle.stack_rational.proofs.Common.{w128}
use Rattle.stack_rows.specs.RowSeen.{numbers_of}
use Rattle.stack_inverse.proofs.SmallSteps.{each_small, small_fits}
use Rattle.stack_inverse.proofs.bounding.small_step.Goals as goal

pub returns-clause-fits : goal.returns-clause-fits
returns-clause-fits c =
    let f = c.args.first.now in
    let r = c.args.row.now in
    let q = c.args.pivot.now in
    let k = c.args.factors in
    let under : SFits w128 r.under = search rules in
    small_fits f.rows f.columns.items (numbers_of r) (numbers_of q.divided.row) r.under k.times k.less f.top
    c.in_ok-own.own q.whole_top f.first c.in_ok-own.ensures
    c.in_ok-step.ensures.small (rw (c.unsigned_abs.ensures.value, to_z-of_z under) at c.in_ok-step.ensures.over)

pub returns-clause-small : goal.returns-clause-small
returns-clause-small c =
    let f = c.args.first.now in
    let r = c.args.row.now in
    let q = c.args.pivot.now in
    let k = c.args.factors in
    each_small f.rows f.columns.items (numbers_of r) (numbers_of q.divided.row) r.under k.times k.less f.top
    c.in_ok-own.own q.whole_top f.first c.in_ok-own.ensures
    c.in_ok-step.ensures.small c.requires.kept
