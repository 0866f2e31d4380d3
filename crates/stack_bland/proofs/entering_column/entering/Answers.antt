use Rattle.std.proofs.Common.{sym, ap, ◌∙◌}
use Rattle.stack_rational.proofs.Common.{Fraction, sign_of, only_if, first_found, first_more}
use Rattle.stack_table.specs.Seen.{table_of}
use Rattle.stack_bland.specs.Choice.{is_negative_sign}
use Rattle.stack_bland.proofs.entering_column.entering.Goals as goal

pub returns-then-is_negative-clause-value : goal.returns-then-is_negative-clause-value
returns-then-is_negative-clause-value g c =
    let t = c.args.t.now in
    let j = c.loop-j.j in
    let cell = ap (λ i. (table_of t).cell i j) (sym c.rows-objective.ensures) ∙ sym c.cell.ensures in
    sym (first_found c.args.among j (λ j. only_if (is_negative_sign (sign_of ((table_of t).cell t.rows j).num)) j) j
    c.loop-j-test.true c.loop-j.invariant (ap (λ b. only_if b j)
    (ap (λ (v : Fraction). is_negative_sign (sign_of v.num)) cell ∙ sym c.is_negative.ensures
    ∙ c.if-is_negative.true)))

pub loop-j-preserved : goal.loop-j-preserved
loop-j-preserved g c =
    let t = c.args.t.now in
    let j = c.loop-j.j in
    let cell = ap (λ i. (table_of t).cell i j) (sym c.rows-objective.ensures) ∙ sym c.cell.ensures in
    first_more j (λ j. only_if (is_negative_sign (sign_of ((table_of t).cell t.rows j).num)) j) c.loop-j.invariant
    (ap (λ b. only_if b j)
    (ap (λ (v : Fraction). is_negative_sign (sign_of v.num)) cell ∙ sym c.is_negative.ensures
    ∙ c.if-is_negative.false))
