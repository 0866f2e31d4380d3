-- For every form of words: if the shelf tells the bytes of its files, only one that is too long causes status 4.
use Rattle.std.specs.Prelude.{◌≡◌, ℕ, ◌<◌, ◌⊎◌, List, [], ◌∷◌, Some, length}
use Rattle.stack_outside.specs.Seen.{ShelfSeen, StreamSeen}
use Rattle.stack_work.specs.Forms.{Form, files_of}
use Rattle.stack_work.specs.OneEnd.{AreTold}
use Rattle.stack_work.specs.Surveying.{greatest_file}
use Rattle.stack_work.specs.Work.{Holds}

-- The shelf tells the bytes of one of these files, and they are too many.
abbrev pub SomeIsLong : Holds → List (List ℕ) → Type 0
SomeIsLong holds [] = ⊥
SomeIsLong holds (name ∷ names) =
    ((bytes : List ℕ) × (holds name ≡ Some bytes) × (greatest_file < length bytes)) ⊎ SomeIsLong holds names

-- What a run says of the length of its files.
pub record LengthSays (form : Form) (status : ℕ) (shelf : ShelfSeen) (out err : StreamSeen) : Type 0 where
  pub only_long : AreTold shelf.holds (files_of (Some form)) → status ≡ 4
      → SomeIsLong shelf.holds (files_of (Some form))
