-- How a run refuses a model, for every form of words that begins with one: by the cause in plain words, with its line;
-- and that nothing else causes status 5.
use Rattle.std.specs.Prelude.{◌≡◌, ◌≢◌, ℕ, ◌<◌, ◌≤◌, ◌⊎◌, List, Ok, Err, length}
use Rattle.stack_outside.specs.Seen.{ShelfSeen, StreamSeen, NeitherFailed, TookNothing}
use Rattle.stack_model.specs.Structure.{Structure, body_of}
use Rattle.stack_reader.specs.declared.errors.ReadError.{ReadError}
use Rattle.stack_reader.specs.Reading.{structure_of}
use Rattle.stack_contact.specs.Surveyed.{Surveyed, IsFirstOverlap, AreTooMany}
use Rattle.stack_lines.specs.declared.refusal.Input.TheVariants as inputs
use Rattle.stack_lines.specs.Refusals.{Fault, faulty, fault_status, memory, long, overlap, many_bearings}
use Rattle.stack_work.specs.AcceptedModel.{IsAcceptedModel}
use Rattle.stack_work.specs.Surveying.{greatest_file}
use Rattle.stack_lines.specs.Errors.{from_read}
use Rattle.stack_said.specs.Delivery.{SaysLine}
use Rattle.stack_said.specs.Promise.{IsShort, Leaves}

-- The fault's status, nothing on the output, and the fault's line on the error stream unless that failed.
abbrev pub Refuses : Fault → (status : ℕ) → (out err : StreamSeen) → Type 0
Refuses f status out err = (status ≡ fault_status f) × TookNothing out × SaysLine (faulty f) err

-- The same; or the status is 11, and nothing is on the output either.
abbrev pub IsRefused : Fault → (status : ℕ) → (out err : StreamSeen) → Type 0
IsRefused f status out err = Leaves status 11 out ⊎ Refuses f status out err

-- Why a file that isn't too long is no accepted model.
pub data ModelFault (bytes : List ℕ) : Type 0 where
  -- its text has this first fault
  in_text : (e : ReadError) → structure_of bytes ≡ Err e → from_read e ≢ memory → ModelFault bytes
  -- two bodies overlap
  in_pair : (s : Structure) (i j : ℕ) → structure_of bytes ≡ Ok s → IsFirstOverlap s i j → ModelFault bytes
  -- there are so many bearings, more than 1,024
  in_count : (s : Structure) (count : ℕ) → structure_of bytes ≡ Ok s → AreTooMany s count → ModelFault bytes

-- The fault by which a run refuses it, with its status and its line.
abbrev pub model_fault : {bytes : List ℕ} → ModelFault bytes → Fault
model_fault (in_text e is some) = from_read e
model_fault (in_pair s i j is pair) = overlap (body_of s i).name (body_of s j).name
model_fault (in_count s count is many) = many_bearings count

-- The bytes of a file are no accepted model.
abbrev pub IsUnaccepted : List ℕ → Type 0
IsUnaccepted bytes = (v : Surveyed) → ¬ (IsAcceptedModel bytes v)

-- How such a file is refused: it is too long, or it has a fault, and the line names which; or the status is 11.
pub data UnacceptedCase (bytes : List ℕ) (status : ℕ) (out err : StreamSeen) : Type 0 where
  is_long : greatest_file < length bytes → Refuses (long inputs.Model) status out err
      → UnacceptedCase bytes status out err
  has_fault : IsShort bytes → (f : ModelFault bytes) → Refuses (model_fault f) status out err
      → UnacceptedCase bytes status out err
  wants_memory : Leaves status 11 out → UnacceptedCase bytes status out err

-- What a run says of the model that its words name first.
pub record ModelSays (bytes : List ℕ) (status : ℕ) (shelf : ShelfSeen) (out err : StreamSeen) : Type 0 where
  pub long_one : NeitherFailed shelf out → greatest_file < length bytes
      → IsRefused (long inputs.Model) status out err
  pub faulty_one : NeitherFailed shelf out → length bytes ≤ greatest_file → (f : ModelFault bytes)
      → IsRefused (model_fault f) status out err
  pub only_faulty : status ≡ 5 → (length bytes ≤ greatest_file) × ModelFault bytes
  -- a model that isn't accepted is refused, by one of these
  pub unaccepted : NeitherFailed shelf out → IsUnaccepted bytes → UnacceptedCase bytes status out err
