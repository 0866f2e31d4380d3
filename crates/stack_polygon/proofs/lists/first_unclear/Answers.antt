use Rattle.std.proofs.Common.{below_more, IsTrue, rules}
use Rattle.stack_polygon.specs.Corners.{IsClear}
use Rattle.stack_polygon.proofs.lists.first_unclear.Goals as goal

pub loop-i-preserved : goal.loop-i-preserved
loop-i-preserved c = below_more (λ k. IsClear c.args.corners.now k) _ c.loop-i.invariant
    (let h : IsTrue c.is_clear.result = search rules in c.is_clear.ensures.0 h)
