use Rattle.stack_polygon.proofs.Tested.{convex_from, to_convex}
use Rattle.stack_polygon.proofs.laws.convexity_by_test.Goals as goal

pub returns : goal.returns
returns c = λ ps. (convex_from ps, to_convex ps)
