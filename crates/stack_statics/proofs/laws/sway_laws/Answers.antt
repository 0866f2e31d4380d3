use Rattle.stack_statics.proofs.Centroids.{sway_down_is_weight, no_sway_is_no_load, sways_add_up}
use Rattle.stack_statics.proofs.SwayCorners.{any_corner_sways_the_same}
use Rattle.stack_statics.proofs.laws.sway_laws.Goals as goal

pub returns-clause-down : goal.returns-clause-down
returns-clause-down c = sway_down_is_weight

pub returns-clause-none : goal.returns-clause-none
returns-clause-none c = no_sway_is_no_load

pub returns-clause-sum : goal.returns-clause-sum
returns-clause-sum c = sways_add_up

pub returns-clause-corner : goal.returns-clause-corner
returns-clause-corner c = any_corner_sways_the_same
