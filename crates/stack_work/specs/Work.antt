-- The order of work as a tree: it gives a value, it refuses, it reads a file and goes on with its bytes, or it surveys
-- a structure and goes on with what the survey came to. `Ends` says how it may end: over what a shelf tells, with
-- memory that may run out and devices that may fail. It is written once, for all forms of words.
use Rattle.std.specs.Prelude.{◌≡◌, ℕ, ◌⊎◌, List, [], ◌∷◌, Option, Some, None, Result, Ok, Err, ⊤}
use Rattle.stack_lines.specs.declared.refusal.Input.{Input}
use Rattle.stack_model.specs.Structure.{Structure}
use Rattle.stack_contact.specs.Surveyed.{Surveyed, Surveys}
use Rattle.stack_contact.specs.declared.types.SurveyError.{SurveyError}
use Rattle.stack_contact.specs.declared.types.SurveyError.TheVariants.{Memory}
use Rattle.stack_lines.specs.Refusals.{Fault, memory, Refusal, file, faulty}

-- What the survey of a structure comes to.
abbrev pub Found : Type 0
Found = Result Surveyed SurveyError

-- What is still to be done on the way to a value or to a refusal.
pub data Work (A : Type 0) : Type 0 where
  gives : A → Work A
  refuses : Fault → Work A
  reads : Input → List ℕ → (List ℕ → Work A) → Work A
  surveys : Structure → (Found → Work A) → Work A

-- One work after another.
infixl 10 ◌>>=◌
abbrev pub ◌>>=◌ : {A B : Type 0} → Work A → (A → Work B) → Work B
(gives x) >>= f = f x
(refuses r) >>= f = refuses r
(reads input name k) >>= f = reads input name (λ bytes. k bytes >>= f)
(surveys s k) >>= f = surveys s (λ found. k found >>= f)

-- The bytes under each name, if they are told.
abbrev pub Holds : Type 0
Holds = List ℕ → Option (List ℕ)

-- Bytes that a file may have: its own, if they are told.
abbrev pub MayHold : Option (List ℕ) → List ℕ → Type 0
MayHold None bytes = ⊤
MayHold (Some told) bytes = bytes ≡ told

-- The ends of a work that gives this value: the value, or memory ran out.
abbrev pub EndsGiving : {A : Type 0} → A → Result A Refusal → Type 0
EndsGiving x (Ok a) = x ≡ a
EndsGiving x (Err r) = r ≡ faulty memory

-- The work refuses: with its own fault, or since memory ran out.
abbrev pub EndsRefusing : {A : Type 0} → Fault → Result A Refusal → Type 0
EndsRefusing q (Ok a) = ⊥
EndsRefusing q (Err r) = (r ≡ faulty q) ⊎ (r ≡ faulty memory)

-- Memory runs out or a device fails: with this refusal and no other.
abbrev pub EndsWith : {A : Type 0} → Refusal → Result A Refusal → Type 0
EndsWith q (Ok a) = ⊥
EndsWith q (Err r) = r ≡ q

-- What a survey may come to, except that memory runs out, which says nothing of the structure.
abbrev pub MayFind : Structure → Found → Type 0
MayFind s (Err Memory) = ⊥
MayFind s found = Surveys s found

-- A way through the work, over what the shelf tells: it asks for these files, in order, and comes to this end. A file
-- goes on with its own bytes if they are told, otherwise with some; a survey with something that it may come to. A
-- device may fail at each file, and memory may run out anywhere.
abbrev pub Ends : {A : Type 0} → Holds → Work A → List (List ℕ) → Result A Refusal → Type 0
Ends holds (gives x) names end = (names ≡ []) × EndsGiving x end
Ends holds (refuses q) names end = (names ≡ []) × EndsRefusing q end
Ends holds (reads input name k) [] end = EndsWith (faulty memory) end
Ends holds (reads input name k) (asked ∷ names) end = (asked ≡ name)
    × (((names ≡ []) × EndsWith (file input) end)
    ⊎ ((bytes : List ℕ) × MayHold (holds name) bytes × Ends holds (k bytes) names end))
Ends holds (surveys s k) names end = ((names ≡ []) × EndsWith (faulty memory) end)
    ⊎ ((found : Found) × MayFind s found × Ends holds (k found) names end)
