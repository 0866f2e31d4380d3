-- The work on `stack KIND N`: a built-in stack, as a document that describes it.
use Rattle.std.specs.Prelude.{ℕ, Result, Ok, Err}
use Rattle.stack_model.specs.Structure.{Structure}
use Rattle.stack_overhang.specs.declared.error.StackError.{StackError}
use Rattle.stack_overhang.specs.Gives.{sized}
use Rattle.stack_overhang.specs.Stacks.{harmonic_of, triangle_stack, slab_of}
use Rattle.stack_work.specs.declared.form.Kind.{Kind}
use Rattle.stack_work.specs.declared.form.Kind.TheVariants.{Harmonic, Triangle, Slab}
use Rattle.stack_lines.specs.Errors.{built_fault}
use Rattle.stack_work.specs.Answers.{Due, document}
use Rattle.stack_work.specs.Work.{Work, gives, refuses, ◌>>=◌}

-- The structure of a kind and a size within its limits.
abbrev pub stack_of : Kind → ℕ → Result Structure StackError
stack_of Harmonic n = sized 1 10 n (harmonic_of n)
stack_of Triangle m = sized 1 10 m (triangle_stack m)
stack_of Slab d = sized 1 6 d (slab_of d)

-- A structure that is built is given, and a fault in building it refused.
abbrev pub built_step : Result Structure StackError → Work Structure
built_step (Ok s) = gives s
built_step (Err e) = refuses (built_fault e)

-- The stack is built, and a document that describes it is due.
unfoldable pub stack_work : Kind → ℕ → Work Due
stack_work kind n = do
  s ← built_step (stack_of kind n)
  gives (document s)
