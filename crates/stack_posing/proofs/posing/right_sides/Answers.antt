use Rattle.std.proofs.Common.{◌<◌, subst}
use Rattle.stack_posing.proofs.PosedParts.{next_right}
use Rattle.stack_posing.proofs.posing.right_sides.Goals as goal

pub loop-b-preserved : goal.loop-b-preserved
loop-b-preserved c =
    next_right c.args.s.now c.loop-b.b _ _ c.dead.result
    (subst (λ n. c.loop-b.b < n) c.free_count-b-end.ensures.value c.loop-b-test.true) c.dead.ensures.value
    c.dead.ensures.size c.in_ok-right.ensures c.loop-b.invariant
