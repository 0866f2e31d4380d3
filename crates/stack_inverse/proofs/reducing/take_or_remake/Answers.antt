use Rattle.stack_rows.specs.EntriesSeen.{entries_of}
use Rattle.stack_rows.specs.RowSeen.{numbers_of}
use Rattle.stack_rows.proofs.Sided.{without_sides}
use Rattle.stack_inverse.proofs.CellSteps.{by_factors}
use Rattle.stack_inverse.proofs.reducing.take_or_remake.Goals as goal

pub entries_fit-requires : goal.entries_fit-requires
entries_fit-requires c =
    let row = c.args.row.now in
    let other = c.args.pivot.now.row in
    without_sides (entries_of row.entries) (entries_of other.entries) row.right other.right c.requires.width

pub returns-in_ok-take_numbers-clause-ok : goal.returns-in_ok-take_numbers-clause-ok
returns-in_ok-take_numbers-clause-ok c =
    let s = c.args.s.now in
    by_factors (numbers_of c.args.row.now) (numbers_of c.args.pivot.now.row) (numbers_of c.take_numbers.new.row)
    c.args.row.now.under s.under s.pivot_under s.number s.factors.times s.factors.less c.take_numbers.new.row.under
    s.some s.cross c.requires.under c.in_ok-take_numbers.ensures.ok
