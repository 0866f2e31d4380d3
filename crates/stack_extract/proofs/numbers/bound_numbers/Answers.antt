use Rattle.std.proofs.Common.{arith}
use Rattle.stack_extract.specs.WrittenLists.{bound_number}
use Rattle.stack_extract.proofs.TableReads.{grown, whole}
use Rattle.stack_extract.proofs.numbers.bound_numbers.Goals as goal

pub bound_number-requires : goal.bound_number-requires
bound_number-requires g c = omega (arith, c.loop-row-test.true, c.rows-row-end.ensures)

pub loop-row-preserved : goal.loop-row-preserved
loop-row-preserved g c = grown (bound_number (g.L.LastTable.shape c.args.t.now) (g.L.LastTable.table c.args.t.now))
    c.loop-row.row c.bound_number.result c.loop-row.numbers.items _ c.bound_number.ensures
    c.loop-row.invariant c.in_ok-push.ensures.items

pub returns : goal.returns
returns g c = whole (bound_number (g.L.LastTable.shape c.args.t.now) (g.L.LastTable.table c.args.t.now))
    c.loop-row.row (g.L.LastTable.shape c.args.t.now).rows c.loop-row.numbers.items c.loop-row.invariant
    (omega (arith, c.loop-row-test.false, c.loop-row.auto, c.rows-row-end.ensures))
