use mathlib.Core.Path.{refl, ◌∙◌}
use Rattle.stack_overlap.proofs.Identities.{along-end}
use Rattle.stack_overlap.proofs.Reaches.{clip}
use Rattle.stack_overlap.proofs.shared.clipped.Goals as goal

pub returns : goal.returns
returns c = clip c.args.a c.args.b c.args.r _ _ _ c.higher.ensures c.lower.ensures refl refl
    (c.mark_of.ensures.place ∙ along-end c.args.a c.args.b) c.mark_of.ensures.at c.requires.low c.requires.high
