use Rattle.std.proofs.Common.{subst, ◌<◌}
use Rattle.stack_rational.proofs.Common.{ordered_fractions}
use Rattle.stack_bland.specs.Choice.{leaving}
use Rattle.stack_tableau.proofs.Turns.{row_refused}
use Rattle.stack_tableau.proofs.choices.leaving.Goals as goal

pub returns-in-Err-clause-tells : goal.returns-in-Err-clause-tells
returns-in-Err-clause-tells g c =
    let S = g.T.Tableau.shape c.args.t.now in
    let T = g.T.Tableau.table c.args.t.now in
    let i = c.loop-i.i in
    row_refused g.T.Tableau.settles g.T.Tableau.MAX S T c.args.column i c.in-Err.refusal
    (leaving ordered_fractions S T c.args.column) (subst (λ n. i < n) c.rows-i-end.ensures c.loop-i-test.true)
    c.loop-i.invariant.none c.in-Err.ensures.wide
