-- What is seen of a device across one call: what the trait tells of it before the call and after it. A theorem on a
-- whole program speaks of its shelf and its streams by these.
use Rattle.std.specs.Prelude.{ℕ, List, Option, None, Some}
use Rattle.std.specs.Io.KnownBytes.{Appends, Keeps}
use Rattle.stack_outside.specs.declared.shelf.Shelf.{Ghosts as ShelfGhosts}
use Rattle.stack_outside.specs.declared.sink.Sink.{Ghosts as SinkGhosts}
use Rattle.stack_outside.specs.Faults.{Rose}

-- What is seen of a shelf: the bytes under each name, the names of all reads so far, and the count of its faults.
pub record ShelfSeen : Type 0 where
  pub holds : List ℕ → Option (List ℕ)
  pub holds_after : List ℕ → Option (List ℕ)
  pub asked : Option (List (List ℕ))
  pub asked_after : Option (List (List ℕ))
  pub faults : ℕ
  pub faults_after : ℕ

-- What is seen of a stream: the bytes written so far, the count of its faults, and the count of its calls.
pub record StreamSeen : Type 0 where
  pub written : Option (List ℕ)
  pub written_after : Option (List ℕ)
  pub faults : ℕ
  pub faults_after : ℕ
  pub calls : Option ℕ
  pub calls_after : Option ℕ

-- What is seen of a shelf of this type, by what its trait tells of it before the call and after it.
abbrev pub seen_shelf : {F : Type 0} → ShelfGhosts F → (before after : F) → ShelfSeen
seen_shelf shelf before after = record {
  holds = shelf.holds before;
  holds_after = shelf.holds after;
  asked = shelf.asked before;
  asked_after = shelf.asked after;
  faults = shelf.faults before;
  faults_after = shelf.faults after;
}

-- What is seen of a stream of this type, by what its trait tells of it before the call and after it.
abbrev pub seen_stream : {S : Type 0} → SinkGhosts S → (before after : S) → StreamSeen
seen_stream stream before after = record {
  written = stream.written before;
  written_after = stream.written after;
  faults = stream.faults before;
  faults_after = stream.faults after;
  calls = stream.calls before;
  calls_after = stream.calls after;
}

-- What is seen of a stream that tells its calls but not its bytes, as the program's own.
abbrev pub seen_counted : (faults faults_after calls calls_after : ℕ) → StreamSeen
seen_counted faults faults_after calls calls_after = record {
  written = None;
  written_after = None;
  faults = faults;
  faults_after = faults_after;
  calls = Some calls;
  calls_after = Some calls_after;
}

-- The shelf failed in the call: its count of faults rose.
abbrev pub ShelfFailed : ShelfSeen → Type 0
ShelfFailed shelf = Rose shelf.faults shelf.faults_after

-- The stream failed in the call: its count of faults rose.
abbrev pub StreamFailed : StreamSeen → Type 0
StreamFailed stream = Rose stream.faults stream.faults_after

-- Neither the shelf nor the stream failed in the call.
abbrev pub NeitherFailed : ShelfSeen → StreamSeen → Type 0
NeitherFailed shelf stream = (¬ (ShelfFailed shelf)) × (¬ (StreamFailed stream))

-- The stream took exactly this text in the call, if it tells its bytes.
abbrev pub Took : StreamSeen → List ℕ → Type 0
Took stream text = Appends stream.written stream.written_after text

-- The stream took nothing in the call, if it tells its bytes.
abbrev pub TookNothing : StreamSeen → Type 0
TookNothing stream = Keeps stream.written stream.written_after
