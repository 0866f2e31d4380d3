use Rattle.std.proofs.Common.{suc, arith}
use Rattle.stack_extract.specs.WrittenLists.{ray_number}
use Rattle.stack_extract.proofs.TableReads.{grown, whole}
use Rattle.stack_extract.proofs.numbers.ray_numbers.Goals as goal

pub loop-column-preserved : goal.loop-column-preserved
loop-column-preserved g c = grown (ray_number (g.L.LastTable.shape c.args.t.now)
    (g.L.LastTable.table c.args.t.now) c.args.entering)
    c.loop-column.column c.ray_number.result c.loop-column.numbers.items _ c.ray_number.ensures
    c.loop-column.invariant c.in_ok-push.ensures.items

pub returns : goal.returns
returns g c = whole (ray_number (g.L.LastTable.shape c.args.t.now) (g.L.LastTable.table c.args.t.now) c.args.entering)
    c.loop-column.column (suc (g.L.LastTable.shape c.args.t.now).contacts) c.loop-column.numbers.items
    c.loop-column.invariant (omega (
      arith,
      c.loop-column-test.false,
      c.loop-column.auto,
      c.contacts-column-end.ensures,
    ))
