use Rattle.std.proofs.Common.{sym, ap, ◌∙◌, rules, SFits, to_z-of_z}
use Rattle.stack_rational.proofs.Common.{w128, over}
use Rattle.stack_inverse.specs.Seen.{under_in}
use Rattle.stack_rows.proofs.Apart.{if_some}
use Rattle.stack_revised.specs.Reads.{read_at}
use Rattle.stack_revised.proofs.running.cell_of.Goals as goal

pub returns-in_ok-number-in-Column : goal.returns-in_ok-number-in-Column
returns-in_ok-number-in-Column c =
    let number : SFits w128 c.in_ok-number-in-Column.number = search rules in
    let under : SFits w128 c.under.result = search rules in
    if_some c.cell.result (λ x h. h
    ∙ (λ z. over ((to_z-of_z number ∙ c.in_ok-number-in-Column.ensures) z)
    ((to_z-of_z under ∙ c.under.ensures.value) z))
    ∙ sym (ap (λ r. read_at c.args.t.now r c.args.i) c.in-Column.is)) c.cell.ensures

pub returns-in-Right : goal.returns-in-Right
returns-in-Right c =
    let number : SFits w128 c.right.result = search rules in
    let under : SFits w128 c.under-in-Right.result = search rules in
    if_some c.cell-in-Right.result (λ x h. h
    ∙ (λ z. over ((to_z-of_z number ∙ c.right.ensures) z) ((to_z-of_z under ∙ c.under-in-Right.ensures.value) z))
    ∙ sym (ap (λ r. read_at c.args.t.now r c.args.i) c.in-Right.is)) c.cell-in-Right.ensures

pub returns-in-Multipliers : goal.returns-in-Multipliers
returns-in-Multipliers c =
    let number : SFits w128 c.multiplier.result = search rules in
    let under : SFits w128 c.under-in-Multipliers.result = search rules in
    if_some c.cell-in-Multipliers.result (λ x h. h
    ∙ (λ z. over ((to_z-of_z number ∙ c.multiplier.ensures) z)
    ((to_z-of_z under ∙ c.under-in-Multipliers.ensures.value ∙ ap (under_in c.args.t.now) c.rows.ensures) z))
    ∙ sym (ap (λ r. read_at c.args.t.now r c.args.i) c.in-Multipliers.is)) c.cell-in-Multipliers.ensures
