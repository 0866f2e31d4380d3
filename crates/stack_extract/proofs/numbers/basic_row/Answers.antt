use Rattle.std.proofs.Common.{sym, ◌∙◌, arith, eq-eqb}
use Rattle.stack_extract.proofs.TableReads.{found_here}
use Rattle.stack_extract.proofs.numbers.basic_row.Goals as goal

pub returns-then-basic-column : goal.returns-then-basic-column
returns-then-basic-column g c = found_here (g.L.LastTable.table c.args.t.now).basic
    (g.L.LastTable.shape c.args.t.now).rows c.args.column c.loop-row.row
    (omega (arith, c.loop-row-test.true, c.rows-row-end.ensures))
    (eq-eqb _ _ (sym c.basic.ensures ∙ c.if-basic-column.true)) c.loop-row.invariant
