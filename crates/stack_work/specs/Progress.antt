-- What one function of the order of work leaves: what it returned and the files it asked for, against its work.
use Rattle.std.specs.Prelude.{◌≡◌, ℕ, ◌≤◌, Bool, true, false, List, [], ◌++◌, Option, Some, None, Result, Ok, Err}
use Rattle.std.specs.Prelude.{Vec, ⊤}
use Rattle.std.specs.declared.alloc.Global.{Global}
use Rattle.stack_outside.specs.Faults.{count_after}
use Rattle.stack_outside.specs.Seen.{ShelfSeen, ShelfFailed}
use Rattle.stack_lines.specs.declared.answer.Answer.{Answer}
use Rattle.stack_model.specs.Structure.{Structure}
use Rattle.stack_model.specs.declared.model.Model.{Model}
use Rattle.stack_model.specs.ModelView.{model_view}
use Rattle.stack_contact.specs.Surveyed.{Surveyed}
use Rattle.stack_lines.specs.declared.refusal.Refusal.{Refusal as CodeRefusal}
use Rattle.stack_lines.specs.declared.refusal.Refusal.TheVariants as code
use Rattle.stack_lines.specs.Refusals.{Refusal, refusal_view, words}
use Rattle.stack_work.specs.Forms.{Form, work_of}
use Rattle.stack_work.specs.Answers.{Due, IsAnswer}
use Rattle.stack_work.specs.Work.{Work, Holds, Ends}

-- The names of the files that were asked for, if a shelf tells them.
abbrev pub ToldNames : Type 0
ToldNames = Option (List (List ℕ))

-- Names that are told stay told, and grow by these.
abbrev pub GrewBy : ToldNames → ToldNames → List (List ℕ) → Type 0
GrewBy None new names = ⊤
GrewBy (Some old) None names = ⊥
GrewBy (Some old) (Some new) names = new ≡ old ++ names

-- Exactly these files were asked for, in this order, if the shelf tells it.
abbrev pub AskedFor : ShelfSeen → List (List ℕ) → Type 0
AskedFor shelf names = GrewBy shelf.asked shelf.asked_after names

-- What was returned is an end of the work that asks for these files: a value that R relates to the value of the work,
-- or the work's refusal.
abbrev pub Returns : {A X : Type 0} → (X → A → Type 0) → Holds → Work A → List (List ℕ) → Result X CodeRefusal → Type 0
Returns {A} R holds w names (Ok x) = (a : A) × R x a × Ends holds w names (Ok a)
Returns R holds w names (Err r) = Ends holds w names (Err (refusal_view r))

-- A file that isn't read has this cause.
abbrev pub IsCausedBy : {X : Type 0} → Result X CodeRefusal → Type 0 → Type 0
IsCausedBy (Err (code.File input)) P = P
IsCausedBy _ P = ⊤

-- A file isn't read: that is the refusal.
abbrev pub is_unread : CodeRefusal → Bool
is_unread (code.File input) = true
is_unread _ = false

-- What was returned is that refusal.
abbrev pub refuses_unread : {X : Type 0} → Result X CodeRefusal → Bool
refuses_unread (Ok x) = false
refuses_unread (Err r) = is_unread r

-- The shelf's count of faults goes up by one exactly if what was returned is the refusal of a file that isn't read. So
-- a read that failed is never passed over.
abbrev pub CountsUnread : {X : Type 0} → Result X CodeRefusal → ShelfSeen → Type 0
CountsUnread result shelf = shelf.faults_after ≡ count_after (refuses_unread result) shelf.faults

-- A function that may read files does this work: it asked for these files, and what it returned is an end of the work
-- that asks for them. The shelf failed exactly if it refuses since a file isn't read. It leaves what the shelf holds as
-- it was, and the shelf's count of faults didn't fall.
pub record Does {A X : Type 0} (R : X → A → Type 0) (w : Work A) (shelf : ShelfSeen)
    (result : Result X CodeRefusal) : Type 0 where
  pub names : List (List ℕ)
  pub asks : AskedFor shelf names
  pub comes : Returns R shelf.holds w names result
  pub cause : IsCausedBy result (ShelfFailed shelf)
  pub counts : CountsUnread result shelf
  pub holds : shelf.holds_after ≡ shelf.holds
  pub later : shelf.faults ≤ shelf.faults_after

-- A function that has no shelf does this work: what it returned is an end of the work that asks for no file, so it
-- never refuses since a file isn't read.
abbrev pub DoesAlone : {A X : Type 0} → (X → A → Type 0) → Work A → Result X CodeRefusal → Type 0
DoesAlone R w result = (holds : Holds) → Returns R holds w [] result

-- The values that the program holds, against those of the work: bytes, a model, a survey, an answer.
abbrev pub AreBytes : Vec ℕ Global → List ℕ → Type 0
AreBytes v bytes = bytes ≡ v.items

-- The model that the program holds describes this structure.
abbrev pub IsModel : Model → Structure → Type 0
IsModel m s = s ≡ model_view m

-- The survey that the program holds is this one.
abbrev pub IsSeenSurvey : Surveyed → Surveyed → Type 0
IsSeenSurvey s v = v ≡ s

-- The verdict and the bytes that the program holds are what is due.
abbrev pub AnswersDue : Answer → Due → Type 0
AnswersDue a due = IsAnswer due a.verdict a.text.items

-- A way through the work on words: words without a form are refused at once.
abbrev pub Way : Holds → Option Form → List (List ℕ) → Result Due Refusal → Type 0
Way holds None names end = (names ≡ []) × (end ≡ Err words)
Way holds (Some form) names end = Ends holds (work_of form) names end

-- What was returned is an end of the work on words that asks for these files: the answer that is due, or the refusal.
-- Memory may run out on any way.
abbrev pub ReturnsAnswer : Holds → Option Form → List (List ℕ) → Result Answer CodeRefusal → Type 0
ReturnsAnswer holds form names (Ok a) = (due : Due) × AnswersDue a due × Way holds form names (Ok due)
ReturnsAnswer holds form names (Err code.Memory) = (end : Result Due Refusal) × Way holds form names end
ReturnsAnswer holds form names (Err r) = Way holds form names (Err (refusal_view r))

-- The work on words is done, as by a function that may read files (`Does`).
pub record Works (form : Option Form) (shelf : ShelfSeen) (result : Result Answer CodeRefusal) : Type 0 where
  pub names : List (List ℕ)
  pub asks : AskedFor shelf names
  pub comes : ReturnsAnswer shelf.holds form names result
  pub cause : IsCausedBy result (ShelfFailed shelf)
  pub counts : CountsUnread result shelf
  pub holds : shelf.holds_after ≡ shelf.holds
  pub later : shelf.faults ≤ shelf.faults_after
