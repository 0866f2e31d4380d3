-- How the answer of a call is about a phase of the written run: the pivot that is done, the place that is too wide, the
-- end of the phase, and what is left of it to be done.
use Rattle.std.specs.Prelude.{◌≡◌, ℕ, suc, ◌<◌, ℤ, ⊤, Option, Some, None}
use Rattle.stack_algebra.specs.Fraction.{Fraction}
use Rattle.stack_algebra.proofs.OrderedFractions.{ordered_fractions}
use Rattle.stack_rational.specs.TooWide.{is_too_wide}
use Rattle.stack_table.specs.declared.types.PivotWide.{PivotWide}
use Rattle.stack_table.specs.Table.{Shape, Tabled}
use Rattle.stack_run.specs.declared.pivots.Pivots.{Pivots}
use Rattle.stack_run.specs.declared.place.RunPlace.{RunPlace}
use Rattle.stack_run.specs.declared.stops.PhaseEnd.{PhaseEnd}
use Rattle.stack_run.specs.declared.stops.PhaseEnd.TheVariants.{Complete, Unlimited}
use Rattle.stack_run.specs.declared.stops.Turn.{Turn}
use Rattle.stack_run.specs.declared.stops.Turn.TheVariants.{Stops, GoesOn}
use Rattle.stack_run.specs.WrittenRun.{PhaseStop, complete, unlimited, turns}

-- where in its pivot a place lies
abbrev pub spot_of : RunPlace → PivotWide
spot_of p = record { row = p.row; column = p.column; step = p.step }

-- a pivot that is nowhere too wide: one more is done, one less is left
pub record IsPivoted (before after : Pivots) (spot : Option PivotWide) : Type 0 where
  pub done : after.done ≡ suc before.done
  pub left : before.left ≡ suc after.left
  pub is_nowhere_too_wide : spot ≡ None

-- a pivot that is first too wide at the place
pub record IsTooWideAt (phase : ℕ) (before : Pivots) (p : RunPlace) (spot : Option PivotWide) : Type 0 where
  pub some_left : 0 < before.left
  pub in_phase : p.phase ≡ phase
  pub next_pivot : p.pivot ≡ suc before.done
  pub first : spot ≡ Some (spot_of p)

-- a phase of the written run at a greatest value, from a table and the pivots done and left
abbrev pub phase_from : ℤ → Shape → (phase among : ℕ) → Pivots → Tabled Fraction → PhaseStop Fraction
phase_from max S phase among k T = turns ordered_fractions S (is_too_wide max) phase among k.left k.done T

-- what an end of a phase says, with the table that is left
abbrev pub stop_of : Tabled Fraction → PhaseEnd → PhaseStop Fraction
stop_of T (Complete k) = complete k.left k.done T
stop_of T (Unlimited c) = unlimited T c

-- a turn that goes on leaves fewer pivots
abbrev pub HasFewer : Pivots → Turn → Type 0
HasFewer before (Stops x) = ⊤
HasFewer before (GoesOn k) = k.left < before.left
