use Rattle.std.proofs.Common.{sym, ap, ◌∙◌, rules, SFits, to_z-of_z}
use Rattle.stack_rational.proofs.Common.{w128, sign_of}
use Rattle.stack_table.specs.Table.{columns}
use Rattle.stack_bland.specs.Choice.{is_negative_sign}
use Rattle.stack_inverse.specs.Seen.{shape_of_revised, number_in, under_in}
use Rattle.stack_inverse.proofs.PutRow.{under_positive}
use Rattle.stack_rows.proofs.RatioSigns.{cell_sign}
use Rattle.stack_revised.proofs.Tests.{negative_test}
use Rattle.stack_revised.proofs.tableau.RevisedTableau.falls_short.Goals as goal

pub returns : goal.returns
returns c =
    let t = c.args.self.now.table in
    let m = t.first.rows in
    let last = columns (shape_of_revised t) in
    let fits : SFits w128 c.right.result = search rules in
    negative_test _ ∙ ap (λ z. is_negative_sign (sign_of z)) (to_z-of_z fits ∙ c.right.ensures
    ∙ ap (λ i. number_in t i last) c.rows.ensures)
    ∙ ap is_negative_sign (sym (cell_sign (number_in t m last) (under_in t m) (under_positive t.rows.items m)))
