use Rattle.stack_extract.proofs.Made.{rows_are, answer_is_collapse, answer_is_bound}
use Rattle.stack_extract.proofs.motions.motion_at.Goals as goal

pub collapse_of-requires : goal.collapse_of-requires
collapse_of-requires g c = rows_are c.requires.end.1

pub bound_of-requires : goal.bound_of-requires
bound_of-requires g c = rows_are c.requires.end.1

pub returns-in-Infeasible-clause-ok : goal.returns-in-Infeasible-clause-ok
returns-in-Infeasible-clause-ok g c = answer_is_collapse c.args.s.now (g.L.LastTable.shape c.args.t.now)
    (g.L.LastTable.flips c.args.t.now) (g.L.LastTable.table c.args.t.now) c.args.kind c.in-Infeasible.is
    c.collapse_of.result c.collapse_of.ensures.ok

pub returns-in-Optimal-clause-ok : goal.returns-in-Optimal-clause-ok
returns-in-Optimal-clause-ok g c = answer_is_bound c.args.s.now (g.L.LastTable.shape c.args.t.now)
    (g.L.LastTable.flips c.args.t.now) (g.L.LastTable.table c.args.t.now) c.args.kind c.in-Optimal.is
    c.bound_of.result c.bound_of.ensures.ok
