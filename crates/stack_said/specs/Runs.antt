-- All that one run promises, of the status with which it ends, the form that its words have, if any, and what is seen
-- of its shelf, its output and its error stream.
use Rattle.std.specs.Prelude.{◌≡◌, ℕ, ◌<◌, ◌≤◌, ◌⊎◌, Option}
use Rattle.stack_outside.specs.Seen.{ShelfSeen, StreamSeen}
use Rattle.stack_work.specs.Forms.{Form}
use Rattle.stack_said.specs.MainTheorem.{RunMeets}
use Rattle.stack_said.specs.OnePut.{PutsAnswer, PutsLine}
use Rattle.stack_said.specs.RunSaid.{RunSays}

pub record Runs (status : ℕ) (form : Option Form) (shelf : ShelfSeen) (out err : StreamSeen) : Type 0 where
  -- the order of work: each step in its turn, and exactly what the work ends in is given out
  pub meets : RunMeets status form shelf out err
  -- what follows from it in plain words, one field for each promise
  pub says : RunSays status form shelf out err
  -- one put on the output for an answer, also for one whose write fails (status 10); none for any other refusal
  pub one_put : PutsAnswer status out
  -- one put on the error stream for a refusal, none for an answer
  pub one_line : PutsLine status err
  -- if the output's count of faults rose, which says that a write of the answer failed, the status is 10. (Of a line on
  -- the error stream that couldn't be written no status says so)
  pub write_told : out.faults < out.faults_after → status ≡ 10
  -- if the shelf's count rose, which says that a read failed, the status is 3 or 11. (A count
  -- that stands at its greatest value can't rise; that of a new device is 0)
  pub read_told : shelf.faults < shelf.faults_after → (status ≡ 3) ⊎ (status ≡ 11)
  -- no file is changed
  pub holds : shelf.holds_after ≡ shelf.holds
  -- no count of faults falls
  pub shelf_later : shelf.faults ≤ shelf.faults_after
  pub out_later : out.faults ≤ out.faults_after
  pub err_later : err.faults ≤ err.faults_after
