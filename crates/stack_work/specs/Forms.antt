-- The forms of words, the files that each names, and the work on each. A further form is a further case of each.
use Rattle.std.specs.Prelude.{◌≢◌, ⊤, ℕ, List, [], ◌∷◌, Option, Some, None}
use Rattle.stack_equilibrium.specs.declared.types.Question.{Question}
use Rattle.stack_work.specs.Answers.{Due}
use Rattle.stack_work.specs.declared.form.Form.{Form as CodeForm}
use Rattle.stack_work.specs.declared.form.Form.TheVariants as code
use Rattle.stack_work.specs.declared.form.Kind.{Kind}
use Rattle.stack_work.specs.Work.{Work}
use Rattle.stack_work.specs.Checking.{check_work}
use Rattle.stack_work.specs.Listing.{contacts_work}
use Rattle.stack_work.specs.Judging.{judge_work}
use Rattle.stack_work.specs.Tables.{table_work}
use Rattle.stack_work.specs.Stacking.{stack_work}
use Rattle.stack_work.specs.Sampling.{sample_work}
use Rattle.stack_work.specs.Ranging.{range_work}
use Rattle.stack_work.specs.Building.{stages_work}
use Rattle.stack_work.specs.Yielding.{yield_work}

-- What the words ask for. Names of files are any words, a budget is a number of pivots.
pub data Form : Type 0 where
  -- `check MODEL CERT`
  check : List ℕ → List ℕ → Form
  -- `contacts MODEL`
  contacts : List ℕ → Form
  -- `stand MODEL [PIVOTS]`, of the dead loads, and `load MODEL [PIVOTS]`, of the live ones
  judges : Question → List ℕ → ℕ → Form
  -- `table MODEL CERT`
  tables : List ℕ → List ℕ → Form
  -- `stack KIND N`
  stack : Kind → ℕ → Form
  -- `sample N`
  sample : ℕ → Form
  -- `range MODEL [PIVOTS]`
  ranges : List ℕ → ℕ → Form
  -- `stages MODEL ORDER [PIVOTS]`
  builds : List ℕ → List ℕ → ℕ → Form
  -- `yield MODEL I J DIRS [PIVOTS]`
  yields : List ℕ → (i j : ℕ) → List ℕ → ℕ → Form

-- The form that the code holds, by bytes.
abbrev pub form_view : CodeForm → Form
form_view (code.Check model certificate) = check model.now certificate.now
form_view (code.Contacts model) = contacts model.now
form_view (code.Judge question model budget) = judges question model.now budget
form_view (code.Table model certificate) = tables model.now certificate.now
form_view (code.Stack kind size) = stack kind size
form_view (code.Sample number) = sample number
form_view (code.Range model budget) = ranges model.now budget
form_view (code.Stages model order budget) = builds model.now order.now budget
form_view (code.Yield model first second directions budget) = yields model.now first second directions.now budget

-- A budget isn't 0.
abbrev pub HasBudget : CodeForm → Type 0
HasBudget (code.Judge question model budget) = budget ≢ 0
HasBudget (code.Range model budget) = budget ≢ 0
HasBudget (code.Stages model order budget) = budget ≢ 0
HasBudget (code.Yield model first second directions budget) = budget ≢ 0
HasBudget _ = ⊤

-- The files that the words name, in the order of work.
abbrev pub files_of : Option Form → List (List ℕ)
files_of None = []
files_of (Some (check model certificate)) = model ∷ certificate ∷ []
files_of (Some (contacts model)) = model ∷ []
files_of (Some (judges question model budget)) = model ∷ []
files_of (Some (tables model certificate)) = model ∷ certificate ∷ []
files_of (Some (stack kind n)) = []
files_of (Some (sample n)) = []
files_of (Some (ranges model budget)) = model ∷ []
files_of (Some (builds model order budget)) = model ∷ order ∷ []
files_of (Some (yields model i j directions budget)) = model ∷ directions ∷ []

-- What is to be done for words of each form, and in which order.
abbrev pub work_of : Form → Work Due
work_of (check model certificate) = check_work model certificate
work_of (contacts model) = contacts_work model
work_of (judges question model budget) = judge_work question model budget
work_of (tables model certificate) = table_work model certificate
work_of (stack kind n) = stack_work kind n
work_of (sample n) = sample_work n
work_of (ranges model budget) = range_work model budget
work_of (builds model order budget) = stages_work model order budget
work_of (yields model i j directions budget) = yield_work model i j directions budget
