use Rattle.std.proofs.Common.{◌≡◌, sym, ap, ◌∙◌, ◌+◌, length, arith, rules, SFits, to_z-of_z}
use Rattle.stack_rational.proofs.Common.{w128}
use Rattle.stack_table.specs.Table.{columns}
use Rattle.stack_inverse.specs.Columns.{RowSeen, multipliers}
use Rattle.stack_inverse.specs.RowsSeen.{seen_at}
use Rattle.stack_inverse.specs.Seen.{shape_of_revised}
use Rattle.stack_rows.specs.EntriesSeen.{entries_of}
use Rattle.stack_rows.specs.RowForm.{number_at}
use Rattle.stack_rows.proofs.Sided.{side_is}
use Rattle.stack_inverse.proofs.PutRow.{entries_get, seen_get}
use Rattle.stack_inverse.proofs.KeptNumbers.{right_is}
use Rattle.stack_inverse.proofs.revised_table.RevisedTable.right.Goals as goal

pub returns : goal.returns
returns c =
    let s = c.args.self.now in
    let m = s.first.rows in
    let i = c.args.i in
    let x = c.index.result.now in
    let row = seen_at s.rows.items i in
    let M = multipliers m in
    let long : length (entries_of x.row.entries) ≡ M = entries_get m s.rows.items i x s.height
    (omega (arith, c.requires)) s.widths c.index.ensures in
    let fits : SFits w128 x.row.right = search rules in
    to_z-of_z fits ∙ sym (side_is (entries_of x.row.entries) x.row.right M (sym long))
    ∙ ap (λ (r : RowSeen). number_at r.numbers M) (seen_get s.rows.items i x (omega (arith, s.height, c.requires))
    c.index.ensures)
    ∙ sym (right_is m s.first.columns.items row.numbers (columns (shape_of_revised s))
    (ap (λ n. n + m) (sym s.plain_count)))
