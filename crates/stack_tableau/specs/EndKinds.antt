-- The value of a run that ended, by how it did and its last table.
use Rattle.stack_algebra.specs.Fraction.{Fraction}
use Rattle.stack_table.specs.Table.{Tabled}
use Rattle.stack_run.specs.WrittenRun.{End, infeasible, feasible, optimal, ray}
use Rattle.stack_tableau.specs.declared.end_kind.EndKind.{EndKind}
use Rattle.stack_tableau.specs.declared.end_kind.EndKind.TheVariants.{Infeasible, Feasible, Optimal, Ray}

-- an end of the written run
abbrev pub end_at : EndKind → Tabled Fraction → End Fraction
end_at Infeasible T = infeasible T
end_at Feasible T = feasible T
end_at Optimal T = optimal T
end_at (Ray c) T = ray T c
