-- What `stack KIND N` promises.
use Rattle.std.specs.Prelude.{◌≡◌, ℕ, ⊤, Result, Ok, Err}
use Rattle.stack_model.specs.Structure.{Structure}
use Rattle.stack_overhang.specs.declared.error.StackError.TheVariants.{Size}
use Rattle.stack_lines.specs.Refusals.{Fault, size}
use Rattle.stack_work.specs.declared.form.Kind.{Kind}
use Rattle.stack_work.specs.Answers.{Due, document}
use Rattle.stack_work.specs.Stacking.{stack_of}
use Rattle.stack_said.specs.Promise.{Promise}

-- There is a built-in stack of this kind and size; there is none.
pub data StackCase : Type 0 where
  is_built : Structure → StackCase
  has_no_size : StackCase

abbrev pub stack_status : StackCase → ℕ
stack_status (is_built s) = 0
stack_status has_no_size = 5

module _ (kind : Kind) (n : ℕ) where
  -- When each comes.
  abbrev pub StackComes : ⊤ → StackCase → Type 0
  StackComes at (is_built s) = stack_of kind n ≡ Ok s
  StackComes at has_no_size = stack_of kind n ≡ Err Size

  -- What is due: a document that reads to that structure and isn't too long to be read; or the fault's line.
  abbrev pub stack_due : StackCase → Result Due Fault
  stack_due (is_built s) = Ok (document s)
  stack_due has_no_size = Err size

  abbrev pub stack_promise : Promise ⊤
  stack_promise = record {
    Case = StackCase;
    IsStatus = λ x k. k ≡ stack_status x;
    Comes = StackComes;
    IsDue = λ at x e. e ≡ stack_due x;
  }
