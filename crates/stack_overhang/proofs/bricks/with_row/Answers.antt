use Rattle.stack_overhang.specs.Bricks.{brick_of}
use Rattle.stack_overhang.proofs.Growing.{one_more_after}
use Rattle.stack_overhang.proofs.bricks.with_row.Goals as goal

pub loop-j-preserved : goal.loop-j-preserved
loop-j-preserved c = one_more_after (brick_of c.args.row) c.args.bricks.items c.loop-j.bricks.items _ c.loop-j.j _
    c.in_ok-push.ensures.items c.brick.ensures c.loop-j.invariant
