-- What the answer of a run says.
use Rattle.std.specs.Prelude.{Result, Ok, Err}
use Rattle.stack_algebra.specs.Fraction.{Fraction}
use Rattle.stack_rational.specs.declared.exact.Exact.{Ghosts}
use Rattle.stack_run.specs.WrittenRun.{End, wide, over}
use Rattle.stack_tableau.specs.declared.ended.Ended.{Ended}
use Rattle.stack_tableau.specs.LastTables.{ended_as}
use Rattle.stack_simplex.specs.declared.refusal.RunError.{RunError}
use Rattle.stack_simplex.specs.declared.refusal.RunError.TheVariants.{TooWide, Spent}
use Rattle.stack_run.specs.PhaseStops.{spot_of}

-- the value of the written run that a refusal gives
abbrev pub refused_end : RunError → End Fraction
refused_end (TooWide p) = wide p.phase p.pivot (spot_of p)
refused_end Spent = over

-- what an answer says of the written run: how it ends, or why it has no end
abbrev pub run_end : {V : Type 0} {number : Ghosts V} → Result (Ended V number) RunError → End Fraction
run_end (Ok x) = ended_as x
run_end (Err e) = refused_end e
