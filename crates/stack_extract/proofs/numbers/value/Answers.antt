use Rattle.std.proofs.Common.{arith}
use Rattle.stack_extract.proofs.TableReads.{row_within}
use Rattle.stack_extract.proofs.numbers.value.Goals as goal

pub right-requires : goal.right-requires
right-requires g c = let l = row_within (g.L.LastTable.table c.args.t.now).basic
    (g.L.LastTable.shape c.args.t.now).rows
    c.args.column c.in-Some.row c.basic_row.result c.basic_row.ensures c.in-Some.is in omega (arith, l)
