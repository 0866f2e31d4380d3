use Rattle.std.proofs.Common.{◌≡◌, ◌++◌}
use Rattle.stack_algebra.specs.Listed.{listed}
use Rattle.stack_overhang.specs.Bricks.{brick_of}
use Rattle.stack_overhang.proofs.bricks.with_row.Given as goal

abbrev pub invariant-loop-j : goal.invariant-loop-j
invariant-loop-j l = l.bricks.items ≡ l.fn.bricks.items ++ listed l.j (brick_of l.row)
