-- The work on stages comes down to one step.
use Rattle.std.proofs.Common.{◌≡◌, refl, sym, subst, ap, ◌∙◌, ℕ, ◌≤◌, List, [], length, Result, Ok, Err, inl, arith}
use Rattle.stack_model.specs.Structure.{Structure}
use Rattle.stack_contact.specs.Surveyed.{Surveyed}
use Rattle.stack_judge.specs.Judgement.{Judgement}
use Rattle.stack_orders.specs.declared.errors.OrderError.{OrderError}
use Rattle.stack_orders.specs.declared.errors.OrderError.TheVariants as reading
use Rattle.stack_orders.specs.OrderRead.{told_order}
use Rattle.stack_orders.specs.OrderGiven.{GivesOrder}
use Rattle.stack_stages.specs.Staged.{Staged, all_stand, falls, too_wide_at, spent_at, no_stages, staged}
use Rattle.stack_stages.specs.Staged.{AreTrue, IsFirstStage}
use Rattle.stack_lines.specs.declared.refusal.Refusal.{Refusal as CodeRefusal}
use Rattle.stack_lines.specs.Refusals.{refusal_view, faulty}
use Rattle.stack_work.specs.Answers.{Due, stages_due}
use Rattle.stack_work.specs.Work.{Work, gives, ◌>>=◌, Holds, Ends}
use Rattle.stack_lines.specs.Errors.{from_order}
use Rattle.stack_work.specs.Building.{order_step, stages_step, order_work}
use Rattle.stack_work.proofs.OneStep.{ends_refusing}
use Rattle.stack_work.proofs.Ways.{wanting}

-- a stage that isn't judged is one of the order
pub is_stage : (v : Surveyed) (order : List ℕ) (budget k : ℕ) (j : Judgement) → IsFirstStage v order budget k j
    → k ≤ length order
is_stage v order budget k j h = let a = h.is_next in let b = h.within in omega (arith, a, b)

-- what comes of the stages is due, where it is true of them
pub stages_give : (v : Surveyed) (order : List ℕ) (budget : ℕ) (x : Staged) → AreTrue v order x
    → stages_step budget v order x ≡ gives (stages_due v order x)
stages_give v order budget (all_stand fs) h = refl
stages_give v order budget (falls fs m) h = refl
stages_give v order budget (too_wide_at k p) h = absurd h
stages_give v order budget (spent_at k) h = absurd h
stages_give v order budget no_stages h = absurd h

module _ (v : Surveyed) (text : List ℕ) (budget : ℕ) where
  abbrev pub after_text : Result (List ℕ) ℕ → Work Due
  after_text r = order_step r >>= λ order. stages_step budget v order (staged v order budget)

  -- the step of what comes of the stages, where the text tells this order
  pub order_is : (order : List ℕ) → told_order v.structure text ≡ Ok order → (x : Staged) → staged v order budget ≡ x
      → order_work budget v text ≡ stages_step budget v order x
  order_is order is x comes = ap after_text is ∙ ap (stages_step budget v order) comes

  -- a text that is read as none, or want of memory
  pub order_refused : (s : Structure) → s ≡ v.structure → (e : OrderError) (r : CodeRefusal) (holds : Holds)
      → GivesOrder s (Err e) text
      → refusal_view r ≡ faulty (from_order e) → Ends holds (order_work budget v text) [] (Err (refusal_view r))
  order_refused s same (reading.Line number) r holds g h =
      ends_refusing holds r (ap after_text (ap (λ t. told_order t text) (sym same) ∙ g.0)) (inl h)
  order_refused s same reading.Memory r holds g h =
      subst (λ q. Ends holds (order_work budget v text) [] (Err q)) (sym h) (wanting holds (order_work budget v text))
