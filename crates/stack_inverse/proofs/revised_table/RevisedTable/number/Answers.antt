use Rattle.std.proofs.Common.{◌≡◌, subst, IfSome, arith}
use Rattle.stack_inverse.specs.Columns.{RowSeen}
use Rattle.stack_inverse.specs.RowsSeen.{number_in_row}
use Rattle.stack_inverse.proofs.PutRow.{seen_get}
use Rattle.stack_inverse.proofs.revised_table.RevisedTable.number.Goals as goal

pub returns : goal.returns
returns c =
    let s = c.args.self.now in
    subst (λ (r : RowSeen). IfSome c.number_of.result (λ n. n ≡ number_in_row s.first r c.args.j))
    (seen_get s.rows.items c.args.i c.index.result.now (omega (arith, c.requires.i_in, s.height)) c.index.ensures)
    c.number_of.ensures
