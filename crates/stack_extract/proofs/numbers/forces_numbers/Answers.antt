use Rattle.std.proofs.Common.{suc, arith}
use Rattle.stack_extract.specs.WrittenLists.{forces_number}
use Rattle.stack_extract.proofs.TableReads.{grown, whole}
use Rattle.stack_extract.proofs.numbers.forces_numbers.Goals as goal

pub loop-column-preserved : goal.loop-column-preserved
loop-column-preserved g c = grown (forces_number (g.L.LastTable.shape c.args.t.now) (g.L.LastTable.table c.args.t.now))
    c.loop-column.column c.forces_number.result c.loop-column.numbers.items _ c.forces_number.ensures
    c.loop-column.invariant c.in_ok-push.ensures.items

pub returns : goal.returns
returns g c = whole (forces_number (g.L.LastTable.shape c.args.t.now) (g.L.LastTable.table c.args.t.now))
    c.loop-column.column (suc (g.L.LastTable.shape c.args.t.now).contacts) c.loop-column.numbers.items
    c.loop-column.invariant (omega (
      arith,
      c.loop-column-test.false,
      c.loop-column.auto,
      c.contacts-column-end.ensures,
    ))
