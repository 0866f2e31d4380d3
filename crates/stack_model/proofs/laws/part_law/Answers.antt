use Rattle.stack_model.proofs.PartSound.{part_sound}
use Rattle.stack_model.proofs.laws.part_law.Goals as goal

pub returns : goal.returns
returns c = part_sound
