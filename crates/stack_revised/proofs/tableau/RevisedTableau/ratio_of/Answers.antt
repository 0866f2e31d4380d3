use Rattle.std.proofs.Common.{◌≡◌, ◌≢◌, sym, ap, subst, ◌∙◌, ◌+◌, get_or, ◌≤◌, unsigned_abs, arith, rules, SFits}
use Rattle.std.proofs.Common.{to_z-of_z, pos}
use Rattle.stack_rational.proofs.Common.{w128, ints, sign_of, widest, ◌≺◌, ◌≼◌}
use Rattle.stack_table.specs.Table.{columns}
use Rattle.stack_bland.specs.Choice.{is_plus}
use Rattle.stack_rows.specs.RowForm.{number_at}
use Rattle.stack_rows.proofs.RatioSigns.{cell_sign}
use Rattle.stack_inverse.specs.RowsSeen.{seen_at}
use Rattle.stack_inverse.specs.Seen.{shape_of_revised, number_in, under_in}
use Rattle.stack_inverse.proofs.PutRow.{under_positive}
use Rattle.stack_inverse.proofs.KeptNumbers.{right_is}
use Rattle.stack_revised.proofs.Ratio.{is_ratio}
use Rattle.stack_revised.proofs.Tests.{plus_not}
use Rattle.stack_revised.proofs.tableau.RevisedTableau.ratio_of.Goals as goal

pub returns-then-cell-le0 : goal.returns-then-cell-le0
returns-then-cell-le0 c =
    let t = c.args.self.now.table in
    let i = c.args.i in
    let k = c.args._column in
    let low : c.entered-cell.result ≼ pos 0 = search rules in
    let is : c.entered-cell.result ≡ number_in t i k = c.entered-cell.ensures
    ∙ c.requires.at_hand.numbers i (omega (arith, c.requires.i_in)) in
    ap is_plus (cell_sign (number_in t i k) (under_in t i) (under_positive t.rows.items i) ∙ ap sign_of (sym is))
    ∙ plus_not c.entered-cell.result low

pub returns : goal.returns
returns c =
    let t = c.args.self.now.table in
    let m = t.first.rows in
    let i = c.args.i in
    let k = c.args._column in
    let in_rows : i ≤ m = omega (arith, c.requires.i_in) in
    let cell : SFits w128 c.entered-cell.result = search rules in
    let right : SFits w128 c.right-right.result = search rules in
    let high : pos 0 ≺ c.entered-cell.result = search rules in
    let is : c.entered-cell.result ≡ number_in t i k = c.entered-cell.ensures ∙ c.requires.at_hand.numbers i in_rows in
    let row = seen_at t.rows.items i in
    let some : number_at t.entered.items i ≢ pos 0 =
    λ z. absurd (omega (arith, ints, subst (λ n. pos 0 ≺ n) (c.entered-cell.ensures ∙ z) high)) in
    is_ratio (number_in t) (under_in t) (under_positive t.rows.items) (λ i. get_or t.basic.items i 0)
    (shape_of_revised t) k i _ _ (to_z-of_z right ∙ c.right-right.ensures) (to_z-of_z cell ∙ is)
    (subst (λ z. pos 0 ≺ z) is high)
    (subst (λ z. unsigned_abs z ≤ unsigned_abs widest) (sym (right_is m t.first.columns.items row.numbers
    (columns (shape_of_revised t)) (ap (λ n. n + m) (sym t.plain_count))))
    (c.requires.at_hand.right_fits i in_rows some))
    (subst (λ z. unsigned_abs z ≤ unsigned_abs widest) (sym c.entered-cell.ensures ∙ is)
    (c.requires.at_hand.fit i in_rows))
