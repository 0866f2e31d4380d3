use Rattle.std.proofs.Common.{◌<◌, ◌∙◌, subst}
use Rattle.stack_work.proofs.BodyNames.{one_more_name}
use Rattle.stack_forms.proofs.surveying.names_of.Goals as goal

pub loop-i-preserved : goal.loop-i-preserved
loop-i-preserved c =
    one_more_name c.args.model.now c.loop-i.i c.loop-i.names.items c.push.new.self.items c.in_ok-from_str.field-0
    (subst (λ n. c.loop-i.i < n) c.bodies-i-end.ensures.value c.loop-i-test.true)
    (c.in_ok-from_str.ensures.ok ∙ c.name.ensures) c.in_ok-push.ensures.items c.loop-i.invariant
