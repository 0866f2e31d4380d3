-- What the end of a run says.
use Rattle.std.proofs.Common.{◌≡◌, false, ℕ, Result, Ok, Err, IfOk, IfErr, ℤ}
use Rattle.stack_rational.proofs.Common.{Fraction, ordered_fractions, is_too_wide}
use Rattle.stack_table.specs.Table.{Shape, Tabled}
use Rattle.stack_table.specs.Problem.{Problem}
use Rattle.stack_table.specs.WrittenTable.{written_table}
use Rattle.stack_run.specs.WrittenRun.{End, written_run}
use Rattle.stack_run.specs.ProblemRun.{run_at}
use Rattle.stack_revised.specs.declared.stops.RevisedStop.{RevisedStop}
use Rattle.stack_revised.specs.declared.stops.RevisedStop.TheVariants.{TooWide, Spent, Unsettled, Memory}
use Rattle.stack_tableau.specs.declared.stops.RunStop.{RunStop}
use Rattle.stack_tableau.specs.declared.stops.RunStop.TheVariants as stops
use Rattle.stack_tableau.specs.Tells.{TellsEnd}
use Rattle.stack_revised.specs.declared.last.Last.{Last}
use Rattle.stack_revised.specs.Ended.{value_of_last, TellsWrittenRun, TellsNothing, tells_stop, stopped_as}

-- the run of a table that is the written one is the run of its problem
pub run_is : (m : ℤ) (P : Problem) (budget : ℕ) (S : Shape) (T : Tabled Fraction) → S ≡ P.shape →
    T ≡ written_table ordered_fractions P → written_run ordered_fractions S (is_too_wide m) budget T ≡ run_at m P budget
run_is m P budget S T hs ht = λ i. written_run ordered_fractions (hs i) (is_too_wide m) budget (ht i)

-- an end or a refusal
pub tells_last : (r : Result Last RevisedStop) (X : End Fraction) → IfOk r (λ l. value_of_last l ≡ X) →
    IfErr r (λ e. TellsNothing e) → TellsWrittenRun r X
tells_last (Ok l) X h k = h
tells_last (Err (TooWide p)) X h k = absurd k
tells_last (Err Spent) X h k = absurd k
tells_last (Err Unsettled) X h k = tt
tells_last (Err Memory) X h k = tt

-- a run over rows that is stopped
pub stop_told : (e : RunStop) (X : End Fraction) → TellsEnd false e X → tells_stop (stopped_as e) X
stop_told (stops.TooWide p) X h = h
stop_told stops.Spent X h = h
stop_told stops.Unsettled X h = tt

-- what holds of an answer, where more does
pub if_ok : {A E : Type 0} (r : Result A E) (P Q : A → Type 0) → ((x : A) → P x → Q x) → IfOk r P → IfOk r Q
if_ok (Ok x) P Q h k = h x k
if_ok (Err e) P Q h k = tt
