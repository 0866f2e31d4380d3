use Rattle.std.proofs.Common.{◌≡◌, ◌*◌}
use Rattle.std.specs.List.{AllByRecursion}
use Rattle.stack_algebra.specs.Listed.{listed}
use Rattle.stack_whole.specs.Limits.{IsBelowBound}
use Rattle.stack_equilibrium.specs.SurveyScene.{scene_of}
use Rattle.stack_posing.specs.Posed.{right_share}
use Rattle.stack_posing.proofs.posing.right_sides.Given as goal

abbrev pub invariant-loop-b : goal.invariant-loop-b
invariant-loop-b l = (l.right.items ≡ listed (3 * l.b) (right_share (scene_of l.s)))
    × AllByRecursion IsBelowBound l.right.items
