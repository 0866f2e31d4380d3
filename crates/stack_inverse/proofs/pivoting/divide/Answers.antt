use Rattle.std.proofs.Common.{to_z-of_z}
use Rattle.stack_rows.specs.RowSeen.{numbers_of}
use Rattle.stack_inverse.proofs.Division.{pivot_row, divided_zeros}
use Rattle.stack_inverse.proofs.pivoting.divide.Goals as goal

pub returns-clause-ok : goal.returns-clause-ok
returns-clause-ok c =
    let f = c.args.first.now in
    let r = c.args.row.now.row in
    let q = c.divide.new.self.row in
    pivot_row f.rows f.columns.items (numbers_of r) r.under r.positive c.args.column (numbers_of q) c.args.number
    q.under c.in_ok-pivot.field-0 c.requires.number c.requires.some
    (rw (to_z-of_z c.ranges.number) at c.in_ok-divide.ensures.ok) c.in_ok-pivot.ensures.within
    c.in_ok-pivot.ensures.fits c.under_fits.ensures

pub returns-clause-zeros : goal.returns-clause-zeros
returns-clause-zeros c =
    let q = c.divide.new.self.row in
    divided_zeros (numbers_of c.args.row.now.row) (numbers_of q) c.args.number q.under c.requires.some
    (rw (to_z-of_z c.ranges.number) at c.in_ok-divide.ensures.ok)
