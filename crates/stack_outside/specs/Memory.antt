-- What the devices in memory hold, have done and answer. Their contracts say it beside what the traits say.
use Rattle.std.specs.Prelude.{◌≡◌, ℕ, List, Bool, true, false, Option, Some, None, Result, Ok, Err, Vec, ⊤, length}
use Rattle.std.specs.Prelude.{min, nat_lt, if◌then◌else◌}
use Rattle.std.specs.declared.alloc.Global.{Global}
use Rattle.stack_outside.specs.declared.error.ShelfError.{ShelfError}
use Rattle.stack_outside.specs.declared.error.ShelfError.TheVariants.{Failed, TooLong, Memory}
use Rattle.stack_outside.specs.declared.memory_shelf.MemoryShelf.{MemoryShelf}
use Rattle.stack_outside.specs.declared.memory_sink.MemorySink.{MemorySink}
use Rattle.stack_outside.specs.Held.{held_of, names_of}

-- The bytes under each name.
abbrev pub shelf_holds : MemoryShelf → List ℕ → Option (List ℕ)
shelf_holds s = held_of s.files.items

-- The names of all reads so far.
abbrev pub shelf_asked : MemoryShelf → List (List ℕ)
shelf_asked s = names_of s.asked.items

-- How often a read has failed.
abbrev pub shelf_faults : MemoryShelf → ℕ
shelf_faults s = s.faults

-- How many reads there were.
abbrev pub shelf_calls : MemoryShelf → ℕ
shelf_calls s = s.calls

-- The numbers of the reads that fail.
abbrev pub shelf_fails : MemoryShelf → List ℕ
shelf_fails s = s.fails.items

-- What a read gives of a name that holds these bytes, in a call that is listed to fail or not.
abbrev pub memory_read : Option (List ℕ) → Bool → ℕ → Result (List ℕ) ShelfError
memory_read held true most = Err Failed
memory_read None false most = Err Failed
memory_read (Some bytes) false most = if nat_lt most (length bytes) then Err TooLong else Ok bytes

-- The result is this one, unless memory ran out.
abbrev pub Answers : Result (Vec ℕ Global) ShelfError → Result (List ℕ) ShelfError → Type 0
Answers (Ok v) wanted = wanted ≡ Ok v.items
Answers (Err Memory) wanted = ⊤
Answers (Err e) wanted = wanted ≡ Err e

-- The bytes written so far.
abbrev pub sink_written : MemorySink → List ℕ
sink_written s = s.bytes.items

-- How often a call has failed.
abbrev pub sink_faults : MemorySink → ℕ
sink_faults s = s.faults

-- How many calls there were.
abbrev pub sink_calls : MemorySink → ℕ
sink_calls s = s.calls

-- How many bytes it may hold.
abbrev pub sink_room : MemorySink → ℕ
sink_room s = s.room

-- The numbers of the calls that fail, each with the count of the bytes that it keeps.
abbrev pub sink_fails : MemorySink → List (ℕ × ℕ)
sink_fails s = s.fails.items

-- How much of a piece of this length a call with room for it keeps, and whether it fails.
abbrev pub kept_by : Option ℕ → ℕ → ℕ × Bool
kept_by None piece = (piece, false)
kept_by (Some count) piece = (min count piece, true)

-- How much of a piece of this length a call keeps, and whether it fails: with this much free room, and
-- the count of its pair, where it is listed to fail.
abbrev pub memory_put : ℕ → Option ℕ → ℕ → ℕ × Bool
memory_put free pair piece = if nat_lt free piece then (0, true) else kept_by pair piece
