-- Work that comes down to one step ends as that step does, and what a function does of the one it does of the other.
use Rattle.std.proofs.Common.{◌≡◌, refl, sym, subst, ap, [], Result, Ok, Err, ◌⊎◌, inl, inr}
use Rattle.stack_outside.specs.Seen.{ShelfSeen}
use Rattle.stack_lines.specs.declared.refusal.Refusal.{Refusal as CodeRefusal}
use Rattle.stack_lines.specs.declared.refusal.Refusal.TheVariants as code
use Rattle.stack_lines.specs.Refusals.{Fault, refusal_view, faulty, memory}
use Rattle.stack_work.specs.Answers.{Due}
use Rattle.stack_work.specs.Work.{Work, gives, refuses, Holds, Ends}
use Rattle.stack_work.specs.Progress.{Returns, Does, DoesAlone}

-- The refusal of a fault that takes memory for its line.
refused_or_memory : (f : Fault) (r : CodeRefusal) → (refusal_view r ≡ faulty f) ⊎ (r ≡ code.Memory)
    → (refusal_view r ≡ faulty f) ⊎ (refusal_view r ≡ faulty memory)
refused_or_memory f r (inl is) = inl is
refused_or_memory f r (inr is) = inr (ap refusal_view is)

module _ {w : Work Due} (holds : Holds) where
  -- it gives what is due
  pub ends_giving : {due : Due} → w ≡ gives due → Ends holds w [] (Ok due)
  ends_giving {due} is = subst (λ x. Ends holds x [] (Ok due)) (sym is) (refl, refl)

  -- it refuses so, or memory is wanting
  pub ends_refusing : {f : Fault} (r : CodeRefusal) → w ≡ refuses f → (refusal_view r ≡ faulty f) ⊎ (r ≡ code.Memory)
      → Ends holds w [] (Err (refusal_view r))
  ends_refusing {f} r is which =
      subst (λ x. Ends holds x [] (Err (refusal_view r))) (sym is) (refl, refused_or_memory f r which)

module _ {A X : Type 0} (R : X → A → Type 0) {w u : Work A} (same : w ≡ u) (result : Result X CodeRefusal) where
  pub done_alone : DoesAlone R u result → DoesAlone R w result
  done_alone done holds = subst (λ x. Returns R holds x [] result) (sym same) (done holds)

  pub done : (shelf : ShelfSeen) → Does R u shelf result → Does R w shelf result
  done shelf = subst (λ x. Does R x shelf result) (sym same)
