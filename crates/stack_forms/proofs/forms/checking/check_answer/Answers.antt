use Rattle.std.proofs.Common.{ℕ, Vec, ap, refl, ◌∙◌}
use Rattle.std.specs.declared.alloc.Global.{Global}
use Rattle.stack_lines.specs.declared.answer.Verdict.TheVariants.{Affirmed, Denied}
use Rattle.stack_work.specs.Answers.{exactly}
use Rattle.stack_lines.specs.CheckText.{accepted_text, rejected_text}
use Rattle.stack_forms.proofs.forms.checking.check_answer.Goals as goal

pub returns-in_ok-from_slice-in-Accepted : goal.returns-in_ok-from_slice-in-Accepted
returns-in_ok-from_slice-in-Accepted c holds = (
  exactly Affirmed accepted_text,
  (refl, c.in_ok-from_slice-in-Accepted.ensures.items),
  rw c.in-Accepted.is (refl, refl),
)

pub returns-in_ok-rejection-in-Rejected : goal.returns-in_ok-rejection-in-Rejected
returns-in_ok-rejection-in-Rejected c holds = (
  exactly Denied (rejected_text c.args.survey.now.structure c.in-Rejected.part c.in-Rejected.reason),
  (refl, ap (λ (v : Vec ℕ Global). v.items) c.into_bytes.ensures.value ∙ c.in_ok-rejection-in-Rejected.ensures),
  rw c.in-Rejected.is (refl, refl),
)
