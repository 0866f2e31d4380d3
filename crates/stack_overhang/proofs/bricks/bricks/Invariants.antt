use Rattle.std.proofs.Common.{◌≡◌, take, flat_map}
use Rattle.stack_overhang.specs.Bricks.{bricks_in}
use Rattle.stack_overhang.proofs.bricks.bricks.Given as goal

abbrev pub invariant-loop-row : goal.invariant-loop-row
invariant-loop-row l = l.found.items ≡ flat_map bricks_in (take l.row-index l.rows)
