use Rattle.std.proofs.Common.{sym, ap, ◌∙◌}
use Rattle.stack_table.specs.Seen.{shape_of_table, table_of}
use Rattle.stack_simplex.specs.Ends.{run_end}
use Rattle.stack_simplex.proofs.RunPhases.{gives, never_spent}
use Rattle.stack_simplex.proofs.run.Goals as goal

pub returns-clause-ends : goal.returns-clause-ends
returns-clause-ends g c = λ P h. gives g.S.Exact.MAX (shape_of_table c.args.t) (table_of c.args.t) c.args.budget
    c.run_laws.ensures.ends P h (run_end c.run_phases.result) c.run_phases.ensures.value

pub returns-clause-suffices : goal.returns-clause-suffices
returns-clause-suffices g c = λ b e l p. never_spent g.S.Exact.MAX (shape_of_table c.args.t) (table_of c.args.t)
    c.args.budget c.budget_law.ensures.enough c.requires.written b e l
    (sym (ap run_end p) ∙ c.run_phases.ensures.value)
