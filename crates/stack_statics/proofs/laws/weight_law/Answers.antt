use Rattle.stack_statics.proofs.Outlines.{any_corner_weighs_the_same}
use Rattle.stack_statics.proofs.laws.weight_law.Goals as goal

pub returns : goal.returns
returns c = any_corner_weighs_the_same
