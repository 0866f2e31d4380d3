use Rattle.std.proofs.Common.{ap, subst, arith}
use Rattle.stack_model.specs.Sound.{IsSound}
use Rattle.stack_contact.specs.Surveyed.{Surveyed}
use Rattle.stack_contact.proofs.Frees.{as_many}
use Rattle.stack_contact.proofs.types.Survey.within.Goals as goal

pub returns-clause-sound : goal.returns-clause-sound
returns-clause-sound c = subst IsSound (ap (λ (v : Surveyed). v.structure) c.self.view_is) c.sound.ensures

pub returns-clause-free : goal.returns-clause-free
returns-clause-free c =
    omega (arith, as_many c.args.self.now.structure.bodies 0, (returns-clause-sound c).few_free)
