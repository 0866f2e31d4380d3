use Rattle.stack_walls.proofs.WallLaws.{walls_have_surveys, drawn_walls_have_surveys, surveyed_isnt_refused}
use Rattle.stack_walls.proofs.laws.walls_can_be_surveyed.Goals as goal

pub returns-clause-walls : goal.returns-clause-walls
returns-clause-walls c = walls_have_surveys c.rectangles_by_ranges.ensures.separation
    c.rectangles_by_ranges.ensures.contacts

pub returns-clause-drawn : goal.returns-clause-drawn
returns-clause-drawn c = drawn_walls_have_surveys c.rectangles_by_ranges.ensures.separation
    c.rectangles_by_ranges.ensures.contacts

pub returns-clause-refused : goal.returns-clause-refused
returns-clause-refused _ = surveyed_isnt_refused
