use Rattle.std.proofs.Common.{subst, sym}
use Rattle.stack_rational.proofs.Common.{least}
use Rattle.stack_bland.specs.Choice.{is_negative_sign}
use Rattle.stack_bland.specs.Found.{TellsFound}
use Rattle.stack_inverse.specs.Seen.{number_in, under_in}
use Rattle.stack_inverse.proofs.PutRow.{under_positive}
use Rattle.stack_rows.proofs.RatioSigns.{cell_sign}
use Rattle.stack_revised.proofs.tableau.RevisedTableau.entering_of.Goals as goal

pub returns-clause-value : goal.returns-clause-value
returns-clause-value c =
    let t = c.args.self.now.table in
    let r = t.first.rows in
    subst (TellsFound c.entering.result) (sym (λ z. least c.args.among (λ j. is_negative_sign (cell_sign
    (number_in t r j) (under_in t r) (under_positive t.rows.items r) z)))) c.entering.ensures.value
