-- An end of a run with its last table.
use Rattle.stack_algebra.specs.Fraction.{Fraction}
use Rattle.stack_rational.specs.declared.exact.Exact.{Ghosts}
use Rattle.stack_table.specs.declared.table.Table.{Table}
use Rattle.stack_table.specs.Seen.{table_of}
use Rattle.stack_run.specs.WrittenRun.{End, infeasible, feasible, optimal, ray}
use Rattle.stack_tableau.specs.declared.ended.Ended.{Ended}
use Rattle.stack_tableau.specs.declared.ended.Ended.TheVariants.{Infeasible, Feasible, Optimal, Ray}

-- the last table of a run
abbrev pub last_of : {V : Type 0} {number : Ghosts V} → Ended V number → Table V number
last_of (Infeasible t) = t
last_of (Feasible t) = t
last_of (Optimal t) = t
last_of (Ray t c) = t

-- the value of the written run that an end gives
abbrev pub ended_as : {V : Type 0} {number : Ghosts V} → Ended V number → End Fraction
ended_as (Infeasible t) = infeasible (table_of t)
ended_as (Feasible t) = feasible (table_of t)
ended_as (Optimal t) = optimal (table_of t)
ended_as (Ray t c) = ray (table_of t) c
