use Rattle.stack_rectangle.proofs.RectangleContacts.{tells}
use Rattle.stack_rectangle.proofs.laws.rectangles_by_ranges.Goals as goal

pub returns-clause-overlaps : goal.returns-clause-overlaps
returns-clause-overlaps _ = λ ps qs h k. (tells ps qs h k).overlaps

pub returns-clause-separation : goal.returns-clause-separation
returns-clause-separation _ = λ ps qs h k. (tells ps qs h k).separation

pub returns-clause-contacts : goal.returns-clause-contacts
returns-clause-contacts _ = λ ps qs h k. (tells ps qs h k).contacts
