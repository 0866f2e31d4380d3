use Rattle.std.proofs.Common.{arith}
use Rattle.stack_tableau.proofs.RunPhases.{driven_below, driven_nonzero}
use Rattle.stack_tableau.proofs.phases.drive_row.Goals as goal

pub driven_pivot-requires-clause-column_in : goal.driven_pivot-requires-clause-column_in
driven_pivot-requires-clause-column_in g c = let t = c.args.t.now in
    let b = driven_below (g.T.Tableau.shape t) (g.T.Tableau.table t) c.args.row c.in-This.column
    c.in-This.ensures.value in
    omega (arith, b)

pub driven_pivot-requires-clause-cell : goal.driven_pivot-requires-clause-cell
driven_pivot-requires-clause-cell g c = let t = c.args.t.now in
    driven_nonzero (g.T.Tableau.shape t) (g.T.Tableau.table t) c.args.row c.in-This.column
    c.in-This.ensures.value
