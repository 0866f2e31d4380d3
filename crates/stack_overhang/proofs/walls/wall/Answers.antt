use Rattle.stack_overhang.proofs.Made.{wall_has_live}
use Rattle.stack_overhang.proofs.walls.wall.Goals as goal

pub returns-clause-live : goal.returns-clause-live
returns-clause-live c = wall_has_live c.built.result c.drawn_wall.result c.built.ensures.ok
