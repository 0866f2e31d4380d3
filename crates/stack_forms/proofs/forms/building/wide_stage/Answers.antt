use Rattle.std.proofs.Common.{◌≡◌, ◌⊎◌, subst}
use Rattle.stack_contact.specs.Surveyed.{Surveyed}
use Rattle.stack_lines.specs.declared.refusal.Refusal.TheVariants.{Memory}
use Rattle.stack_lines.specs.declared.refusal.Within.TheVariants.{Stage}
use Rattle.stack_lines.specs.Refusals.{refusal_view, faulty}
use Rattle.stack_work.specs.Judging.{wide_within}
use Rattle.stack_forms.proofs.forms.building.wide_stage.Goals as goal

pub returns-in-Ok : goal.returns-in-Ok
returns-in-Ok c = subst
    (λ (v : Surveyed). (refusal_view c.wide_refusal.result
    ≡ faulty (wide_within (Stage c.args.number) v.structure c.args.place)) ⊎ (c.wide_refusal.result ≡ Memory))
    c.in-Ok.ensures c.wide_refusal.ensures
