use Rattle.std.proofs.Common.{◌*ℤ◌, pos, rules, SFits, to_z-of_z}
use Rattle.stack_rational.proofs.Common.{w128}
use Rattle.stack_rows.specs.EntriesSeen.{entries_of}
use Rattle.stack_inverse.proofs.CellSteps.{told_cell, told_right}
use Rattle.stack_inverse.proofs.reducing.take_by_cell.Goals as goal

pub take_apart-requires-clause-right : goal.take_apart-requires-clause-right
take_apart-requires-clause-right c =
    let s = c.args.s.now in
    let f = s.factors in
    let row = c.args.row.now in
    let other = c.args.pivot.now.row in
    let own : SFits w128 row.right = search rules in
    let side : SFits w128 other.right = search rules in
    let told = (rw (c.in-Ok.is, to_z-of_z own, to_z-of_z side) at c.in_ok-right.ensures).0 in
    told_right (entries_of row.entries) (entries_of other.entries) row.right other.right (row.under *ℤ f.times) f.times
    f.less c.in-Ok.right.num (pos c.in-Ok.right.den) c.requires.width
    (rw c.requires.under at (told_cell row.right s.under other.right s.pivot_under s.number f.times f.less s.positive
    s.pivot_positive s.some s.cross c.in-Ok.right told))
