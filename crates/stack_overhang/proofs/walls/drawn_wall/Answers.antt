use Rattle.std.proofs.Common.{ap, ◌∙◌, ◌+◌, ◌/◌, ◌%◌}
use Rattle.stack_overhang.specs.Wall.{drawn}
use Rattle.stack_overhang.proofs.walls.drawn_wall.Goals as goal

pub returns-clause-value : goal.returns-clause-value
returns-clause-value c =
    let first = c.draw-first.ensures.value in
    let second = c.draw-second.ensures.value ∙ ap drawn first in
    λ i. record {
      courses = 2 + c.args.number % 9;
      bricks = 2 + c.args.number / 9 % 9;
      tenths = 3 + first i / 65536 % 5;
      shift = 4 + second i / 65536 % 7;
    }
