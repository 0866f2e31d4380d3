use Rattle.std.proofs.Common.{◌≡◌, sym, ap, ◌∙◌, ◌+◌, length, arith, rules, SFits, to_z-of_z}
use Rattle.stack_rational.proofs.Common.{w128}
use Rattle.stack_table.specs.Table.{plain}
use Rattle.stack_inverse.specs.Columns.{RowSeen, multipliers}
use Rattle.stack_inverse.specs.RowsSeen.{seen_at}
use Rattle.stack_inverse.specs.Seen.{shape_of_revised}
use Rattle.stack_rows.specs.EntriesSeen.{entries_of}
use Rattle.stack_rows.specs.RowForm.{number_at}
use Rattle.stack_rows.proofs.Sided.{before_is}
use Rattle.stack_inverse.proofs.PutRow.{entries_get, seen_get}
use Rattle.stack_inverse.proofs.KeptNumbers.{artificial_is}
use Rattle.stack_inverse.proofs.revised_table.RevisedTable.multiplier.Goals as goal

pub at-requires : goal.at-requires
at-requires c =
    let s = c.args.self.now in
    let m = s.first.rows in
    let x = c.index.result.now in
    let long : length (entries_of x.row.entries) ≡ multipliers m = entries_get m s.rows.items m x s.height (omega arith)
    s.widths c.index.ensures in
    omega (arith, long, c.requires)

pub returns : goal.returns
returns c =
    let s = c.args.self.now in
    let m = s.first.rows in
    let i = c.args.i in
    let x = c.index.result.now in
    let row = seen_at s.rows.items m in
    let long : length (entries_of x.row.entries) ≡ multipliers m = entries_get m s.rows.items m x s.height (omega arith)
    s.widths c.index.ensures in
    let fits : SFits w128 c.at.result = search rules in
    to_z-of_z fits ∙ c.at.ensures
    ∙ sym (before_is (entries_of x.row.entries) x.row.right i (omega (arith, long, c.requires)))
    ∙ ap (λ (r : RowSeen). number_at r.numbers i) (seen_get s.rows.items m x (omega (arith, s.height)) c.index.ensures)
    ∙ sym (artificial_is m s.first.columns.items row.numbers (plain (shape_of_revised s) + i) i
    (ap (λ n. n + i) (sym s.plain_count)) c.requires)
