-- What giving out the result of the work does to the streams: an answer on the output, or the line of a refusal on the
-- error stream.
use Rattle.std.specs.Prelude.{◌≡◌, ℕ, List, [], ◌∷◌, ◌++◌, take, ◌⊎◌, Result, Ok, Err, ⊤}
use Rattle.stack_outside.specs.Faults.{counted}
use Rattle.stack_outside.specs.Seen.{StreamSeen, StreamFailed, Took, TookNothing}
use Rattle.stack_lines.specs.declared.answer.Answer.{Answer}
use Rattle.stack_lines.specs.declared.refusal.Refusal.{Refusal as CodeRefusal}
use Rattle.stack_lines.specs.Refusals.{Refusal, refusal_view, words, faulty, memory, output, status_of, refusal_line}
use Rattle.stack_lines.specs.Verdicts.{verdict_status}

-- A line ends with a line feed.
abbrev pub with_line_feed : List ℕ → List ℕ
with_line_feed line = line ++ 10 ∷ []

-- The line of a refusal was written unless the error stream failed, and in any case a front of it.
pub record SaysLine (r : Refusal) (err : StreamSeen) : Type 0 where
  pub whole : ¬ (StreamFailed err) → Took err (with_line_feed (refusal_line r))
  pub kept : ℕ
  pub front : Took err (take kept (with_line_feed (refusal_line r)))

-- The answer was written whole, with its status, and the output's count of faults stays.
pub record WritesAnswer (a : Answer) (status : ℕ) (out err : StreamSeen) : Type 0 where
  pub is_status : status ≡ verdict_status a.verdict
  pub is_written : Took out a.text.items
  pub is_silent : TookNothing err
  pub stays : out.faults_after ≡ out.faults

-- The output failed, once: a front of the answer was written.
pub record FailsToWrite (a : Answer) (status : ℕ) (out err : StreamSeen) : Type 0 where
  pub is_status : status ≡ status_of output
  pub cause : StreamFailed out
  pub counts : out.faults_after ≡ counted out.faults
  pub kept : ℕ
  pub is_written : Took out (take kept a.text.items)
  pub line : SaysLine output err

-- The line of the refusal takes memory. Those of words without a form, of an output that failed and of memory that ran
-- out are constants.
abbrev pub TakesMemory : Refusal → Type 0
TakesMemory words = ⊥
TakesMemory output = ⊥
TakesMemory (faulty memory) = ⊥
TakesMemory _ = ⊤

-- The line of the refusal was written, or it takes memory, and that ran out. The output's count of faults stays.
pub record TellsRefusal (r : Refusal) (status : ℕ) (out err : StreamSeen) : Type 0 where
  pub told : Refusal
  pub which : (told ≡ r) ⊎ (TakesMemory r × (told ≡ faulty memory))
  pub is_status : status ≡ status_of told
  pub is_kept : TookNothing out
  pub stays : out.faults_after ≡ out.faults
  pub line : SaysLine told err

-- What giving out the result of the work does to the streams.
abbrev pub Delivers : Result Answer CodeRefusal → (status : ℕ) → (out err : StreamSeen) → Type 0
Delivers (Ok a) status out err = WritesAnswer a status out err ⊎ FailsToWrite a status out err
Delivers (Err r) status out err = TellsRefusal (refusal_view r) status out err
