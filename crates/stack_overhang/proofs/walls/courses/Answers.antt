use Rattle.std.proofs.Common.{◌+◌}
use Rattle.stack_overhang.specs.Wall.{course_of}
use Rattle.stack_overhang.proofs.Growing.{one_more}
use Rattle.stack_overhang.proofs.walls.courses.Goals as goal

pub loop-k-preserved : goal.loop-k-preserved
loop-k-preserved c = one_more (λ k. course_of c.args.w (k + 1)) c.loop-k.rows.items _ c.loop-k.k _
    c.in_ok-push.ensures.items c.course.ensures c.loop-k.invariant
