-- The theorem on the function that does a whole run: its status, the bytes that it writes and the files that it asks
-- for, over any devices. It has no premise. What it says of the contents of files, and of what was written, is as much
-- as the shelf and the streams tell. Status 11, `memory`, is the one answer that is always left open.
use Rattle.std.specs.Prelude.{◌≡◌, ℕ, ◌<◌, ◌≤◌, ◌⊎◌, List, take, Option, None, Result, Ok, Err, ⊤}
use Rattle.stack_outside.specs.Seen.{ShelfSeen, StreamSeen, ShelfFailed, StreamFailed, NeitherFailed, Took}
use Rattle.stack_outside.specs.Seen.{TookNothing}
use Rattle.stack_lines.specs.declared.answer.Verdict.{Verdict}
use Rattle.stack_work.specs.Forms.{Form, files_of}
use Rattle.stack_lines.specs.Refusals.{Refusal, file, faulty, memory, output, status_of}
use Rattle.stack_work.specs.Answers.{Due, IsAnswer}
use Rattle.stack_lines.specs.Verdicts.{verdict_status}
use Rattle.stack_work.specs.Progress.{AskedFor, Way}
use Rattle.stack_said.specs.Delivery.{SaysLine}

-- A way through the work that asks for these files gives what is due, the whole of it was written on the output, and
-- nothing on the error stream.
pub record Answered (status : ℕ) (form : Option Form) (shelf : ShelfSeen) (names : List (List ℕ))
    (out err : StreamSeen) : Type 0 where
  pub due : Due
  pub way : Way shelf.holds form names (Ok due)
  pub verdict : Verdict
  pub text : List ℕ
  pub is_due : IsAnswer due verdict text
  pub is_status : status ≡ verdict_status verdict
  pub is_written : Took out text
  pub is_silent : TookNothing err

-- A front of an answer was written.
pub record WritesFront (form : Option Form) (shelf : ShelfSeen) (names : List (List ℕ)) (out : StreamSeen)
    : Type 0 where
  pub due : Due
  pub way : Way shelf.holds form names (Ok due)
  pub verdict : Verdict
  pub text : List ℕ
  pub is_due : IsAnswer due verdict text
  pub kept : ℕ
  pub is_written : Took out (take kept text)

-- What is on the output if the run refuses so: nothing new, but for an output that failed.
abbrev pub OutputAfter : Refusal → Option Form → ShelfSeen → List (List ℕ) → StreamSeen → Type 0
OutputAfter output form shelf names out = WritesFront form shelf names out
OutputAfter _ form shelf names out = TookNothing out

-- Why the run refuses so: the shelf failed at a file that the work reads, the last that was asked for; or the output
-- failed; of `memory` no cause is asked for; else a way through the work refuses so.
abbrev pub Cause : Refusal → Option Form → ShelfSeen → List (List ℕ) → StreamSeen → Type 0
Cause (file input) form shelf names out = ShelfFailed shelf × Way shelf.holds form names (Err (file input))
Cause output form shelf names out = StreamFailed out
Cause (faulty memory) form shelf names out = ⊤
Cause r form shelf names out = Way shelf.holds form names (Err r)

-- There is a refusal with this status and a cause, and unless the error stream failed, exactly its line was written
-- there.
pub record Refused (status : ℕ) (form : Option Form) (shelf : ShelfSeen) (names : List (List ℕ))
    (out err : StreamSeen) : Type 0 where
  pub refusal : Refusal
  pub is_status : status ≡ status_of refusal
  pub cause : Cause refusal form shelf names out
  pub on_output : OutputAfter refusal form shelf names out
  pub line : SaysLine refusal err

-- Exactly what an end of the work says was given out: the status and the whole answer, or the status and the one
-- line.
abbrev pub IsGivenOut : Result Due Refusal → (status : ℕ) → (out err : StreamSeen) → Type 0
IsGivenOut (Ok due) status out err =
    (verdict : Verdict) × (text : List ℕ) × IsAnswer due verdict text × (status ≡ verdict_status verdict)
    × Took out text × TookNothing err
IsGivenOut (Err r) status out err = (status ≡ status_of r) × TookNothing out × SaysLine r err

-- The theorem. A run ends with this status; its words have this form, if any; and this is seen of its shelf, its output
-- and its error stream. All its fields speak of ways through the work that ask for the same files.
pub record RunMeets (status : ℕ) (form : Option Form) (shelf : ShelfSeen) (out err : StreamSeen) : Type 0 where
  pub names : List (List ℕ)
  -- exactly the files of a way through the work were asked for, in its order
  pub asks : AskedFor shelf names
  pub wanted : (end : Result Due Refusal) × Way shelf.holds form names end
  -- they are a front of those that the words name
  pub asks_named : (n : ℕ) × AskedFor shelf (take n (files_of form))
  -- a status of 0 or 1 is an answer, written whole
  pub answered : status < 2 → Answered status form shelf names out err
  -- any other is a refusal, with its cause and its line, and leaves the output as it was unless that failed
  pub refused : 2 ≤ status → Refused status form shelf names out err
  -- if neither the shelf nor the output failed, a way through the work decides
  pub decided : NeitherFailed shelf out → (status ≡ 11) ⊎ ((end : Result Due Refusal)
      × Way shelf.holds form names end × IsGivenOut end status out err)
  -- 2 comes only if the words have no form, and then 2 or 11, whatever the devices do
  pub without_form : form ≡ None → (status ≡ 2) ⊎ (status ≡ 11)
  pub only_without_form : status ≡ 2 → form ≡ None
  -- 3 comes only if the shelf failed, and 10 only if the output did
  pub shelf_failed : status ≡ 3 → ShelfFailed shelf
  pub output_failed : status ≡ 10 → StreamFailed out
