use Rattle.stack_statics.proofs.Centroids.{sway_acts_at_centroid}
use Rattle.stack_statics.proofs.laws.centroid_law.Goals as goal

pub returns : goal.returns
returns c = sway_acts_at_centroid
