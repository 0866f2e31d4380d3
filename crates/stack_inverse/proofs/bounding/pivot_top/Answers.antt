use Rattle.stack_rows.specs.RowSeen.{numbers_of}
use Rattle.stack_inverse.proofs.RevisedRows.{by_top, kept_by_top}
use Rattle.stack_inverse.proofs.bounding.pivot_top.Goals as goal

pub returns-in-Some-clause-within : goal.returns-in-Some-clause-within
returns-in-Some-clause-within c =
    let f = c.args.first.now in
    by_top f.rows f.columns.items f.top f.first (numbers_of c.args.row.now) c.in-Some.all
    c.in-Some.ensures

pub returns-in-Some-clause-kept : goal.returns-in-Some-clause-kept
returns-in-Some-clause-kept c =
    let f = c.args.first.now in
    kept_by_top f.rows f.top f.first.some (numbers_of c.args.row.now) c.in-Some.all c.requires
    c.in-Some.ensures
