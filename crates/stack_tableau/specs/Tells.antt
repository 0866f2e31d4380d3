-- What the answers of choices, phases and runs say of the written run. `Unsettled` is never returned by a table that
-- settles all.
use Rattle.std.specs.Prelude.{◌≡◌, ◌≢◌, ℕ, ◌<◌, ℤ, pos, ⊤, Bool, false, Option, Some, None, Result, Ok, Err}
use Rattle.stack_algebra.specs.Fraction.{Fraction}
use Rattle.stack_table.specs.declared.types.PivotWide.{PivotWide}
use Rattle.stack_table.specs.Table.{Shape, Tabled, plain}
use Rattle.stack_run.specs.WrittenRun.{Choice, stays, rises, due, refused, PhaseStop, complete, wide_at, spent, End}
use Rattle.stack_run.specs.WrittenRun.{wide, over}
use Rattle.stack_run.specs.PhaseStops.{spot_of, IsPivoted, IsTooWideAt, phase_from, stop_of}
use Rattle.stack_run.specs.declared.pivots.Pivots.{Pivots}
use Rattle.stack_run.specs.declared.stops.PhaseEnd.{PhaseEnd}
use Rattle.stack_run.specs.declared.stops.Turn.{Turn}
use Rattle.stack_run.specs.declared.stops.Turn.TheVariants.{Stops, GoesOn}
use Rattle.stack_table.specs.declared.types.TurnRefusal.{TurnRefusal}
use Rattle.stack_table.specs.declared.types.TurnRefusal.TheVariants as refusals
use Rattle.stack_tableau.specs.declared.stops.RunStop.{RunStop}
use Rattle.stack_tableau.specs.declared.stops.RunStop.TheVariants.{TooWide, Spent, Unsettled}
use Rattle.stack_tableau.specs.declared.end_kind.EndKind.{EndKind}
use Rattle.stack_tableau.specs.EndKinds.{end_at}
use Rattle.stack_tableau.specs.declared.choices.Chosen.{Chosen}
use Rattle.stack_tableau.specs.declared.choices.Chosen.TheVariants.{Stays, Rises, Due}

-- what a choice is
abbrev pub choice_of : Chosen → Choice
choice_of Stays = stays
choice_of (Rises c) = rises c
choice_of (Due r c) = due r c

-- what a refusal says of a choice
abbrev pub TellsRefused : Bool → TurnRefusal → Choice → Type 0
TellsRefused settles (refusals.TooWide p) X = refused p ≡ X
TellsRefused settles refusals.Unsettled X = settles ≡ false

-- what the answer of a choice says of it
abbrev pub TellsChoice : Bool → Result Chosen TurnRefusal → Choice → Type 0
TellsChoice settles (Ok x) X = choice_of x ≡ X
TellsChoice settles (Err e) X = TellsRefused settles e X

-- the choice by the row that leaves
abbrev pub row_chosen : ℕ → Option ℕ → Choice
row_chosen c None = rises c
row_chosen c (Some r) = due r c

-- what the answer of the search for that row says
abbrev pub TellsRow : Bool → ℕ → Result (Option ℕ) TurnRefusal → Choice → Type 0
TellsRow settles c (Ok o) X = row_chosen c o ≡ X
TellsRow settles c (Err e) X = TellsRefused settles e X

-- the pivot of a choice can be made: its row and column stand in the table, its cell isn't 0, its column is at hand
pub record IsDue (S : Shape) (T : Tabled Fraction) (has : ℕ → Type 0) (r c : ℕ) : Type 0 where
  pub row_in : r < S.rows
  pub column_in : c < plain S
  pub cell : (T.cell r c).num ≢ pos 0
  pub at_hand : has c

abbrev pub IsReady : Shape → Tabled Fraction → (ℕ → Type 0) → Chosen → Type 0
IsReady S T has Stays = ⊤
IsReady S T has (Rises c) = ⊤
IsReady S T has (Due r c) = IsDue S T has r c

-- what the answer of a pivot that is due says
abbrev pub TellsPivot : Bool → Result Pivots RunStop → (phase : ℕ) → Pivots → Option PivotWide → Type 0
TellsPivot settles (Ok k) phase before spot = IsPivoted before k spot
TellsPivot settles (Err (TooWide p)) phase before spot = IsTooWideAt phase before p spot
TellsPivot settles (Err Spent) phase before spot = before.left ≡ 0
TellsPivot settles (Err Unsettled) phase before spot = settles ≡ false

-- why a phase stops where a choice or a pivot of it isn't made
abbrev pub stop_at : TurnRefusal → (phase pivot : ℕ) → RunStop
stop_at (refusals.TooWide spot) phase pivot =
    TooWide (record { phase = phase; pivot = pivot; row = spot.row; column = spot.column; step = spot.step })
stop_at refusals.Unsettled phase pivot = Unsettled

-- what a refusal says of a phase
abbrev pub TellsStop : Bool → RunStop → PhaseStop Fraction → Type 0
TellsStop settles (TooWide p) X = wide_at p.phase p.pivot (spot_of p) ≡ X
TellsStop settles Spent X = spent ≡ X
TellsStop settles Unsettled X = settles ≡ false

-- what the answer of a phase says of it
abbrev pub TellsPhase : Bool → Tabled Fraction → Result PhaseEnd RunStop → PhaseStop Fraction → Type 0
TellsPhase settles T (Ok x) X = stop_of T x ≡ X
TellsPhase settles T (Err e) X = TellsStop settles e X

-- and that of a turn: the phase stops, or what is left of it is to be done
abbrev pub TellsTurn : Bool → ℤ → Shape → (phase among : ℕ) → Tabled Fraction → Result Turn RunStop →
    PhaseStop Fraction → Type 0
TellsTurn settles max S phase among T (Ok (Stops x)) X = stop_of T x ≡ X
TellsTurn settles max S phase among T (Ok (GoesOn k)) X = phase_from max S phase among k T ≡ X
TellsTurn settles max S phase among T (Err e) X = TellsStop settles e X

-- and that of phases 1 and 2
abbrev pub TellsPivots : Bool → Tabled Fraction → Result Pivots RunStop → PhaseStop Fraction → Type 0
TellsPivots settles T (Ok k) X = complete k.left k.done T ≡ X
TellsPivots settles T (Err e) X = TellsStop settles e X

-- what a refusal says of the written run
abbrev pub TellsEnd : Bool → RunStop → End Fraction → Type 0
TellsEnd settles (TooWide p) X = wide p.phase p.pivot (spot_of p) ≡ X
TellsEnd settles Spent X = over ≡ X
TellsEnd settles Unsettled X = settles ≡ false

-- what the answer of a run says of the written run
abbrev pub TellsRun : Bool → Tabled Fraction → Result EndKind RunStop → End Fraction → Type 0
TellsRun settles T (Ok x) X = end_at x T ≡ X
TellsRun settles T (Err e) X = TellsEnd settles e X
