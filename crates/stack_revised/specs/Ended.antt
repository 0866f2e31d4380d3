-- What the answer of a run of a problem says: how it ends, with its last table.
use Rattle.std.specs.Prelude.{◌≡◌, ℕ, Bool, false, eqb, get_or, ⊤, Result, Ok, Err}
use Rattle.stack_algebra.specs.Fraction.{Fraction}
use Rattle.stack_table.specs.Table.{Shape}
use Rattle.stack_run.specs.WrittenRun.{End, wide, over}
use Rattle.stack_tableau.specs.declared.end_kind.EndKind.{EndKind}
use Rattle.stack_tableau.specs.declared.end_kind.EndKind.TheVariants.{Infeasible, Feasible, Optimal, Ray}
use Rattle.stack_revised.specs.declared.stops.RevisedStop.{RevisedStop}
use Rattle.stack_revised.specs.declared.stops.RevisedStop.TheVariants.{TooWide, Spent, Unsettled, Memory}
use Rattle.stack_tableau.specs.declared.stops.RunStop.{RunStop}
use Rattle.stack_tableau.specs.declared.stops.RunStop.TheVariants as stops
use Rattle.stack_run.specs.PhaseStops.{spot_of}
use Rattle.stack_revised.specs.declared.last.Last.{Last}
use Rattle.stack_inverse.specs.Seen.{shape_of_revised, table_of_revised}
use Rattle.stack_tableau.specs.EndKinds.{end_at}

-- the last table's shape
abbrev pub shape_of_last : Last → Shape
shape_of_last l = shape_of_revised l.table

-- whether a row was flipped
abbrev pub flips_of_last : Last → ℕ → Bool
flips_of_last l i = get_or l.flipped.items i false

-- the value of the written run that it gives
abbrev pub value_of_last : Last → End Fraction
value_of_last l = end_at l.kind (table_of_revised l.table)

-- a ray's column can be read
abbrev pub reads_column : EndKind → ℕ → Bool
reads_column Infeasible j = false
reads_column Feasible j = false
reads_column Optimal j = false
reads_column (Ray c) j = eqb j c

-- what a refusal says of the written run: that it is wide at this place, or over its budget; the others say nothing
abbrev pub tells_stop : RevisedStop → End Fraction → Type 0
tells_stop (TooWide p) X = wide p.phase p.pivot (spot_of p) ≡ X
tells_stop Spent X = over ≡ X
tells_stop Unsettled X = ⊤
tells_stop Memory X = ⊤

-- a refusal of a run over rows
abbrev pub stopped_as : RunStop → RevisedStop
stopped_as (stops.TooWide p) = TooWide p
stopped_as stops.Spent = Spent
stopped_as stops.Unsettled = Unsettled

-- one that says nothing
abbrev pub TellsNothing : RevisedStop → Type 0
TellsNothing (TooWide p) = ⊥
TellsNothing Spent = ⊥
TellsNothing Unsettled = ⊤
TellsNothing Memory = ⊤

-- what the answer of a run says of the written run: an end is its end with its last table
abbrev pub TellsWrittenRun : Result Last RevisedStop → End Fraction → Type 0
TellsWrittenRun (Ok l) X = value_of_last l ≡ X
TellsWrittenRun (Err e) X = tells_stop e X
