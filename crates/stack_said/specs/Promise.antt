-- What a form of words promises: the cases that its run may come to, which are answers and causes of refusals; the
-- status of each; when it comes; and what is due then. These four tables of a form stand on one page, as RangePromise;
-- `stand` and `load` share one, and so do `check` and `table`; `yield` has a second one, PairPromise. And what it means
-- that a run fulfils such a promise, which is the same for each form.
use Rattle.std.specs.Prelude.{◌≡◌, ◌≢◌, ◌⊎◌, ⊤, ℕ, ◌≤◌, List, length, Result, Ok, Err}
use Rattle.stack_outside.specs.Seen.{ShelfSeen, StreamSeen, NeitherFailed, TookNothing}
use Rattle.stack_contact.specs.Surveyed.{Surveyed}
use Rattle.stack_lines.specs.Refusals.{Refusal, Fault, faulty}
use Rattle.stack_work.specs.Answers.{Due}
use Rattle.stack_work.specs.Surveying.{greatest_file}
use Rattle.stack_work.specs.AcceptedModel.{IsAcceptedModel}
use Rattle.stack_said.specs.MainTheorem.{IsGivenOut}

-- A file that isn't too long.
abbrev pub IsShort : List ℕ → Type 0
IsShort text = length text ≤ greatest_file

-- The status is this number, and nothing was written on the output.
pub record Leaves (status n : ℕ) (out : StreamSeen) : Type 0 where
  pub is_status : status ≡ n
  pub is_kept : TookNothing out

-- The promise of a form of words, on the survey of its model (of a form that names none: on nothing).
pub record Promise (On : Type 0) : Type 1 where
  -- what it may come to
  pub Case : Type 0
  -- the status with which the run then ends
  pub IsStatus : Case → ℕ → Type 0
  -- when each comes, by the judgements
  pub Comes : On → Case → Type 0
  -- what is due then: an answer, with what it means, or the fault by which the work is refused
  pub IsDue : On → Case → Result Due Fault → Type 0

-- A fault that is due is a refusal of the work.
abbrev pub told_as : Result Due Fault → Result Due Refusal
told_as (Ok due) = Ok due
told_as (Err f) = Err (faulty f)

-- The run has the status of this case, and exactly what is due in it was given out: the whole answer, or the line.
pub record GivesOut {On : Type 0} (p : Promise On) (v : On) (x : p.Case) (status : ℕ) (out err : StreamSeen) : Type 0
  where
    pub is_status : p.IsStatus x status
    pub due : Result Due Fault
    pub is_due : p.IsDue v x due
    pub is_given : IsGivenOut (told_as due) status out err

-- A status that is caused neither by the words, nor by a device, nor by memory that ran out.
pub record IsOfWork (status : ℕ) : Type 0 where
  pub not_words : status ≢ 2
  pub not_file : status ≢ 3
  pub not_output : status ≢ 10
  pub not_memory : status ≢ 11

-- Nor by the length of a file, nor by a model that isn't accepted. (For 4 see LengthSaid, for 5 ModelSaid.)
pub record IsOwn (status : ℕ) : Type 0 where
  pub of_work : IsOfWork status
  pub not_long : status ≢ 4
  pub not_model : status ≢ 5

-- A run fulfils the promise p of its form. It is on each v of which `IsOn` holds: mostly the survey of the model whose
-- bytes were read. `IsOwnStatus` holds of the statuses that only the cases of p cause.
pub record FulfilsOn {On : Type 0} (p : Promise On) (IsOn : On → Type 0) (IsOwnStatus : ℕ → Type 0) (status : ℕ)
    (shelf : ShelfSeen) (out err : StreamSeen) : Type 0 where
  -- some case comes;
  pub some : (v : On) → IsOn v → (x : p.Case) × p.Comes v x
  -- each case that comes is given out, unless the shelf or the output failed, or the status is 11;
  pub each : NeitherFailed shelf out → (v : On) → IsOn v → (x : p.Case) → p.Comes v x
      → GivesOut p v x status out err ⊎ Leaves status 11 out
  -- and whatever the devices did, a status of which `IsOwnStatus` holds is that of a case that comes, and what is due
  -- in it was given out
  pub only : IsOwnStatus status → (v : On) × IsOn v × (x : p.Case) × p.Comes v x × GivesOut p v x status out err

-- The same on the survey of the accepted model with these bytes; `only` is about all statuses but 2, 3, 4, 5, 10 and
-- 11.
abbrev pub Fulfils : Promise Surveyed → (bytes : List ℕ) → (status : ℕ) → ShelfSeen → (out err : StreamSeen) → Type 0
Fulfils p bytes status shelf out err = FulfilsOn p (IsAcceptedModel bytes) IsOwn status shelf out err

-- The same for a form that names no model; `only` is about all statuses but 2, 3, 10 and 11.
abbrev pub FulfilsAtOnce : Promise ⊤ → (status : ℕ) → ShelfSeen → (out err : StreamSeen) → Type 0
FulfilsAtOnce p status shelf out err = FulfilsOn p (λ n. ⊤) IsOfWork status shelf out err
