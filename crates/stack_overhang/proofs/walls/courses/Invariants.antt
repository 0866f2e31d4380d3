use Rattle.std.proofs.Common.{◌≡◌, ◌+◌}
use Rattle.stack_algebra.specs.Listed.{listed}
use Rattle.stack_overhang.specs.Wall.{course_of}
use Rattle.stack_overhang.proofs.walls.courses.Given as goal

abbrev pub invariant-loop-k : goal.invariant-loop-k
invariant-loop-k l = l.rows.items ≡ listed l.k (λ k. course_of l.w (k + 1))
