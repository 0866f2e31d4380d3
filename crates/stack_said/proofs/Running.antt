-- A run keeps its promises, by the work that is done and what is then given out.
use Rattle.std.specs.Prelude.{◌≢◌, ◌≤◌, ℕ, Option, Result, Err}
use Rattle.stack_work.proofs.Common.{Answer, Form, ShelfSeen, StreamSeen, Works}
use Rattle.stack_walls.specs.Surveying.{DrawnWallsHaveSurveys}
use Rattle.stack_lines.specs.declared.refusal.Refusal.{Refusal as CodeRefusal}
use Rattle.stack_lines.specs.declared.refusal.Refusal.TheVariants as code
use Rattle.stack_said.specs.Delivery.{Delivers}
use Rattle.stack_said.specs.OnePut.{PutsAnswer, PutsLine}
use Rattle.stack_said.specs.Printed.{PrintedIsAccepted}
use Rattle.stack_said.specs.Runs.{Runs}
use Rattle.stack_said.proofs.Consequences.{run_meets}
use Rattle.stack_said.proofs.FaultsTold.{told_write, told_read}
use Rattle.stack_said.proofs.Puts.{work_refuses_otherwise}
use Rattle.stack_said.proofs.RunSaid.{run_says}

-- what a run promises, of work that was done and of what was then given out
pub works_run : PrintedIsAccepted → DrawnWallsHaveSurveys → (form : Option Form) (shelf : ShelfSeen)
    (out err : StreamSeen) (worked : Result Answer CodeRefusal) (status : ℕ) → Works form shelf worked
    → Delivers worked status out err → (worked ≢ Err code.Output → PutsAnswer status out) → PutsLine status err
    → out.faults ≤ out.faults_after → err.faults ≤ err.faults_after → Runs status form shelf out err
works_run law drawn form shelf out err worked status works delivers one_put one_line out_later err_later =
    let meets = run_meets form shelf out err worked status works delivers in
    record {
      meets = meets;
      says = run_says law drawn meets;
      one_put = one_put (work_refuses_otherwise form shelf worked works);
      one_line = one_line;
      write_told = told_write worked status out err delivers;
      read_told = told_read shelf worked status out err works.counts delivers;
      holds = works.holds;
      shelf_later = works.later;
      out_later = out_later;
      err_later = err_later;
    }
