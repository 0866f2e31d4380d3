use Rattle.std.proofs.Common.{sym, ap, subst, ◌∙◌, ◌<◌, not}
use Rattle.stack_rational.proofs.Common.{only_if, first_found}
use Rattle.stack_table.specs.Table.{plain}
use Rattle.stack_tableau.proofs.RunPhases.{driven_item, driven_at}
use Rattle.stack_tableau.proofs.phases.driven_column.Goals as goal

pub returns-in-Some-false-clause-value : goal.returns-in-Some-false-clause-value
returns-in-Some-false-clause-value g c =
    let S = g.T.Tableau.shape c.args.t.now in
    let T = g.T.Tableau.table c.args.t.now in
    let j = c.loop-j.j in
    sym (first_found (plain S) j (driven_item S T c.args.row) j
    (subst (λ n. j < n) c.plain-j-end.ensures c.loop-j-test.true) c.loop-j.invariant
    (driven_at S T c.args.row j c.in-Some-false.field-0 c.in-Some-false.ensures.value
    ∙ ap (λ b. only_if (not b) j) c.in-Some-false.field-0-test))
