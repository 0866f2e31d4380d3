-- What form each words have. A further form of words is a further case.
use Rattle.std.specs.Prelude.{ℕ, ◌^◌, List, [], ◌∷◌, map, codes, decimal, ◌&&◌, nat_lt, Option, Some, None}
use Rattle.std.specs.Prelude.{◌≡◌, ◌≢◌, ⊤, drop, Result, Ok, Err, String, string_bytes, if◌then◌else◌}
use Rattle.std.specs.Option.{option_map}
use Rattle.std.specs.Str.Parse.{digits_value}
use Rattle.std.specs.Str.{bytes_eq}
use Rattle.std.specs.Vec.Iter.{into_iter_items}
use Rattle.std.specs.IoError.{error_kind}
use Rattle.std.specs.declared.alloc.Global.{Global}
use Rattle.std.specs.declared.io.Error.{Error}
use Rattle.std.specs.declared.io.ErrorKind.TheVariants.{OutOfMemory}
use Rattle.std.specs.declared.vec.IntoIter.{IntoIter}
use Rattle.stack_equilibrium.specs.declared.types.Question.{Question}
use Rattle.stack_equilibrium.specs.declared.types.Question.TheVariants.{Dead, Live}
use Rattle.stack_work.specs.Forms.{Form, check, contacts, judges, tables, stack, sample, ranges, builds, yields}
use Rattle.stack_work.specs.Judging.{default_budget}
use Rattle.stack_work.specs.declared.form.Kind.{Kind}
use Rattle.stack_work.specs.declared.form.Kind.TheVariants.{Harmonic, Triangle, Slab}
use Rattle.stack_cli.specs.declared.given.Given.{Given as CodeGiven}
use Rattle.stack_cli.specs.declared.given.Given.TheVariants as given

-- The words, as bytes.
abbrev pub texts : List (String Global) → List (List ℕ)
texts words = map string_bytes words

-- The question about the dead loads is `stand`, that about the live loads `load`.
abbrev pub question_of : List ℕ → Option Question
question_of word = if bytes_eq word (codes "stand") then Some Dead
    else (if bytes_eq word (codes "load") then Some Live else None)

-- The number that a word spells: from 0 to 2^32 - 1 in decimal, without sign or leading zeros.
abbrev pub number_spelled : List ℕ → Option ℕ
number_spelled word = let n = digits_value 10 word in
    if nat_lt n (2 ^ 32) && bytes_eq (decimal n) word then Some n else None

-- A budget isn't 0.
abbrev pub unless_zero : Option ℕ → Option ℕ
unless_zero None = None
unless_zero (Some n) = if nat_lt 0 n then Some n else None

-- The budget that a word spells.
abbrev pub budget_of : List ℕ → Option ℕ
budget_of word = unless_zero (number_spelled word)

-- A judgement needs a question and a budget: if one of them isn't spelled, the words are no form.
abbrev pub judging : Option Question → List ℕ → Option ℕ → Option Form
judging (Some question) model (Some budget) = Some (judges question model budget)
judging _ model budget = None

-- A range needs a budget.
abbrev pub ranging : List ℕ → Option ℕ → Option Form
ranging model (Some budget) = Some (ranges model budget)
ranging model None = None

-- Stages need a budget.
abbrev pub staging : List ℕ → List ℕ → Option ℕ → Option Form
staging model order (Some budget) = Some (builds model order budget)
staging model order None = None

-- A region needs the numbers of two loads and a budget: if one of them isn't spelled, the words are no form.
abbrev pub yielding : List ℕ → Option ℕ → Option ℕ → List ℕ → Option ℕ → Option Form
yielding model (Some i) (Some j) directions (Some budget) = Some (yields model i j directions budget)
yielding model _ j directions budget = None

-- The kind of a built-in stack.
abbrev pub stack_kind : List ℕ → Option Kind
stack_kind word = if bytes_eq word (codes "harmonic") then Some Harmonic
    else (if bytes_eq word (codes "triangle") then Some Triangle
    else (if bytes_eq word (codes "slab") then Some Slab else None))

-- A built-in stack needs its kind and its number: if one isn't spelled, the words are no form.
abbrev pub stacking : Option Kind → Option ℕ → Option Form
stacking (Some kind) (Some n) = Some (stack kind n)
stacking _ n = None

-- The form of a word before one more, and before two more.
abbrev pub form_of_two : List ℕ → List ℕ → Option Form
form_of_two word last = if bytes_eq word (codes "contacts") then Some (contacts last)
    else (if bytes_eq word (codes "sample") then option_map sample (number_spelled last)
    else (if bytes_eq word (codes "range") then ranging last (Some default_budget)
    else judging (question_of word) last (Some default_budget)))

-- Three words: two files for `check`, `table` and `stages`, a kind and a number for `stack`, or a file and a budget.
abbrev pub form_of_three : List ℕ → List ℕ → List ℕ → Option Form
form_of_three word next last = if bytes_eq word (codes "check") then Some (check next last)
    else (if bytes_eq word (codes "table") then Some (tables next last)
    else (if bytes_eq word (codes "stack") then stacking (stack_kind next) (number_spelled last)
    else (if bytes_eq word (codes "range") then ranging next (budget_of last)
    else (if bytes_eq word (codes "stages") then staging next last (Some default_budget)
    else judging (question_of word) next (budget_of last)))))

-- Four words: two files and a budget.
abbrev pub form_of_four : List ℕ → List ℕ → List ℕ → List ℕ → Option Form
form_of_four word next third last =
    if bytes_eq word (codes "stages") then staging next third (budget_of last) else None

-- Five words: a model, the numbers of two loads, and a file of directions.
abbrev pub form_of_five : List ℕ → List ℕ → List ℕ → List ℕ → List ℕ → Option Form
form_of_five word next third fourth last = if bytes_eq word (codes "yield")
    then yielding next (number_spelled third) (number_spelled fourth) last (Some default_budget) else None

-- Six words: the same five, and a budget.
abbrev pub form_of_six : List ℕ → List ℕ → List ℕ → List ℕ → List ℕ → List ℕ → Option Form
form_of_six word next third fourth fifth last = if bytes_eq word (codes "yield")
    then yielding next (number_spelled third) (number_spelled fourth) fifth (budget_of last) else None

-- The form of the words, if they have one.
abbrev pub form_of : List (List ℕ) → Option Form
form_of (word ∷ last ∷ []) = form_of_two word last
form_of (word ∷ next ∷ last ∷ []) = form_of_three word next last
form_of (word ∷ next ∷ third ∷ last ∷ []) = form_of_four word next third last
form_of (word ∷ next ∷ third ∷ fourth ∷ last ∷ []) = form_of_five word next third fourth last
form_of (word ∷ next ∷ third ∷ fourth ∷ fifth ∷ last ∷ []) = form_of_six word next third fourth fifth last
form_of _ = None

-- What is made of all words that the runtime has: those after the first, which is the program's own name, in their
-- order, unless there is no memory for them. If the runtime has an error in their place, memory ran out or a word can't
-- be read.
abbrev pub AreWordsAfterName : Result (IntoIter (String Global) Global) Error → CodeGiven → Type 0
AreWordsAfterName (Ok all) (given.Words words) = words.items ≡ drop 1 (into_iter_items all)
AreWordsAfterName (Ok all) given.Unreadable = ⊥
AreWordsAfterName (Ok all) given.Memory = ⊤
AreWordsAfterName (Err e) (given.Words words) = ⊥
AreWordsAfterName (Err e) given.Unreadable = error_kind e ≢ OutOfMemory
AreWordsAfterName (Err e) given.Memory = error_kind e ≡ OutOfMemory

-- The words that the runtime gave: if one of them can't be read, or there is no memory for them, they are no form.
abbrev pub form_of_given : CodeGiven → Option Form
form_of_given (given.Words words) = form_of (texts words.items)
form_of_given given.Unreadable = None
form_of_given given.Memory = None
