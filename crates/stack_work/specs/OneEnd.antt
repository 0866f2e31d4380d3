-- When the work on words has one end only: if its files are told. A structure has one survey, so nothing is chosen
-- freely.
use Rattle.std.specs.Prelude.{◌≡◌, ℕ, List, [], ◌∷◌, Option, Some, Result, Ok, Err, ⊤}
use Rattle.stack_lines.specs.Refusals.{Refusal, file, faulty, memory}
use Rattle.stack_work.specs.Forms.{Form}
use Rattle.stack_work.specs.Answers.{Due}
use Rattle.stack_work.specs.Work.{Holds}
use Rattle.stack_work.specs.Progress.{Way}

-- The bytes under these names are told.
abbrev pub AreTold : Holds → List (List ℕ) → Type 0
AreTold holds [] = ⊤
AreTold holds (name ∷ names) = ((bytes : List ℕ) × (holds name ≡ Some bytes)) × AreTold holds names

-- The end is neither about memory nor about a device.
abbrev pub IsDefiniteRefusal : Refusal → Type 0
IsDefiniteRefusal (file input) = ⊥
IsDefiniteRefusal (faulty memory) = ⊥
IsDefiniteRefusal _ = ⊤

-- A value is definite, and so is a refusal but for a file that isn't read or memory that ran out.
abbrev pub IsDefinite : {A : Type 0} → Result A Refusal → Type 0
IsDefinite (Ok a) = ⊤
IsDefinite (Err r) = IsDefiniteRefusal r

-- Two definite ends of the work on the same words, over the same told files, are the same, and ask for the same files.
abbrev pub WordsHaveOneEnd : Type 0
WordsHaveOneEnd = (holds : Holds) (form : Option Form) (names more : List (List ℕ)) (end last : Result Due Refusal)
    → AreTold holds names → Way holds form names end → Way holds form more last → IsDefinite end → IsDefinite last
    → (names ≡ more) × (end ≡ last)
