use Rattle.std.proofs.Common.{sym, ap, ◌∙◌, rules, SFits}
use Rattle.stack_rational.proofs.Common.{w128, sign_of}
use Rattle.stack_bland.specs.Choice.{is_nought}
use Rattle.stack_inverse.specs.Seen.{number_in, under_in}
use Rattle.stack_inverse.proofs.PutRow.{under_positive}
use Rattle.stack_rows.proofs.RatioSigns.{cell_sign}
use Rattle.stack_revised.proofs.Tests.{nought_test}
use Rattle.stack_revised.proofs.tableau.RevisedTableau.is_nothing.Goals as goal

pub returns-clause-value : goal.returns-clause-value
returns-clause-value c =
    let t = c.args.self.now.table in
    let i = c.args.i in
    let j = c.args.j in
    let fits : SFits w128 c.in_ok-number.number = search rules in
    nought_test c.in_ok-number.number fits ∙ ap is_nought (ap sign_of c.in_ok-number.ensures
    ∙ sym (cell_sign (number_in t i j) (under_in t i) (under_positive t.rows.items i)))
