-- The promise of `stack`, by the ends of its work.
use Rattle.std.proofs.Common.{◌≡◌, refl, subst, ap, ◌∙◌, ℕ, Bool, true, false, Option, Some, Result, Ok, Err}
use Rattle.std.proofs.Common.{if◌then◌else◌}
use Rattle.stack_work.proofs.Common.{Form, Holds, ShelfSeen, StreamSeen, built_step, gives, stack_of, verdict_status}
use Rattle.stack_work.specs.Stacking.{stack_work}
use Rattle.stack_model.specs.Structure.{Structure}
use Rattle.stack_overhang.specs.declared.error.StackError.{StackError}
use Rattle.stack_overhang.specs.declared.error.StackError.TheVariants.{Size}
use Rattle.stack_overhang.specs.Gives.{is_size, sized}
use Rattle.stack_overhang.specs.Stacks.{harmonic_of, triangle_stack, slab_of}
use Rattle.stack_work.specs.declared.form.Kind.{Kind}
use Rattle.stack_work.specs.declared.form.Kind.TheVariants.{Harmonic, Triangle, Slab}
use Rattle.stack_work.specs.Answers.{document}
use Rattle.stack_work.specs.Forms.{stack}
use Rattle.stack_work.specs.Work.{◌>>=◌}
use Rattle.stack_said.specs.MainTheorem.{IsGivenOut, RunMeets}
use Rattle.stack_said.specs.Promise.{told_as, FulfilsAtOnce}
use Rattle.stack_said.specs.StackPromise.{StackCase, is_built, has_no_size, stack_status, StackComes, stack_due}
use Rattle.stack_said.specs.StackPromise.{stack_promise}
use Rattle.stack_said.proofs.PromiseFulfilled.{EndsIn, at_once, fulfils_at_once}

-- a size is within its limits, or there is none
abbrev made : Structure → Result Structure StackError
made s = Ok s

pub sized_is : (P : Result Structure StackError → Type 0) (least most n : ℕ) (s : Structure) → P (Ok s) → P (Err Size)
    → P (sized least most n s)
sized_is P least most n s there none = go (is_size least most n)
  where
    go : (b : Bool) → P (if b then made s else Err Size)
    go true = there
    go false = none

module _ (kind : Kind) (n : ℕ) (holds : Holds) where
  each : (x : StackCase) → StackComes kind n tt x → EndsIn holds (stack_work kind n) (λ e. e ≡ stack_due kind n x)
  unfolding stack_work
  each (is_built s) is = at_once holds _ _ refl (ap (λ r. built_step r >>= λ t. gives (document t)) is)
  each has_no_size is = at_once holds _ _ refl (ap (λ r. built_step r >>= λ t. gives (document t)) is)

abbrev Some_of : Kind → ℕ → Result Structure StackError → Type 0
Some_of kind n r = stack_of kind n ≡ r → (x : StackCase) × StackComes kind n tt x

some : (kind : Kind) (n : ℕ) → Some_of kind n (stack_of kind n)
some Harmonic n = sized_is (Some_of Harmonic n) 1 10 n (harmonic_of n) (λ is. (is_built (harmonic_of n), is))
    (λ is. (has_no_size, is))
some Triangle n = sized_is (Some_of Triangle n) 1 10 n (triangle_stack n)
    (λ is. (is_built (triangle_stack n), is)) (λ is. (has_no_size, is))
some Slab n = sized_is (Some_of Slab n) 1 6 n (slab_of n) (λ is. (is_built (slab_of n), is))
    (λ is. (has_no_size, is))

status_is : (kind : Kind) (n : ℕ) (x : StackCase) (k : ℕ) (out err : StreamSeen)
    → IsGivenOut (told_as (stack_due kind n x)) k out err → k ≡ stack_status x
status_is kind n (is_built s) k out err g = g.3 ∙ ap verdict_status g.2.0
status_is kind n has_no_size k out err g = g.0

pub stack_fulfils : {status : ℕ} {form : Option Form} {shelf : ShelfSeen} {out err : StreamSeen}
    → RunMeets status form shelf out err → (kind : Kind) (n : ℕ) → form ≡ Some (stack kind n)
    → FulfilsAtOnce (stack_promise kind n) status shelf out err
stack_fulfils {status} {form} {shelf} {out} {err} m kind n is =
    fulfils_at_once (stack_promise kind n) m (stack kind n) is (record {
      some = λ at on. some kind n refl;
      each = λ at on. each kind n shelf.holds;
      tells = λ at x e due k out err g.
          (status_is kind n x k out err (subst (λ d. IsGivenOut (told_as d) k out err) due g), due);
    })
