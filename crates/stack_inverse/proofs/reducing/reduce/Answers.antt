use Rattle.std.proofs.Common.{sym, ap, ◌∙◌, to_z-of_z}
use Rattle.stack_rational.proofs.Common.{is_zero_whole}
use Rattle.stack_rows.specs.RowSeen.{numbers_of}
use Rattle.stack_inverse.proofs.Steps.{row_stays}
use Rattle.stack_inverse.proofs.reducing.reduce.Goals as goal

pub returns-then-stays-clause-ok : goal.returns-then-stays-clause-ok
returns-then-stays-clause-ok c = λ column hf hm.
    let f = c.args.first.now in
    let r = c.args.row.now.row in
    let q = c.args.pivot.now.divided.row in
    row_stays f.rows f.columns.items (numbers_of r) r.under r.positive (numbers_of q) q.under c.args.i column
    (hm (c.stays.ensures.fits c.if-stays.true))
    (ap is_zero_whole (sym hf ∙ sym (to_z-of_z c.ranges.number)) ∙ c.stays.ensures.zero c.if-stays.true)

pub returns-in-Ok-clause-ok : goal.returns-in-Ok-clause-ok
returns-in-Ok-clause-ok c = λ column hf hm. c.in-Ok.ensures.ok column (to_z-of_z c.ranges.number ∙ hf)

pub returns-in-Err-clause-refused : goal.returns-in-Err-clause-refused
returns-in-Err-clause-refused c = λ column hf. c.in-Err.ensures.refused column (to_z-of_z c.ranges.number ∙ hf)
