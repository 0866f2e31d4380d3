use Rattle.std.proofs.Common.{ap, subst, arith}
use Rattle.stack_model.specs.Sound.{IsSound}
use Rattle.stack_contact.specs.Surveyed.{Surveyed}
use Rattle.stack_contact.proofs.Frees.{as_many}
use Rattle.stack_contact.proofs.types.Survey.free_count.Goals as goal

pub returns-clause-few : goal.returns-clause-few
returns-clause-few c =
    let s = c.args.self.now in
    let sound = subst IsSound (ap (λ (v : Surveyed). v.structure) c.self.view_is) c.bodies-i-end.ensures.sound in
    omega (arith, c.loop-i.invariant.1, as_many s.structure.bodies 0, sound.few_free)
