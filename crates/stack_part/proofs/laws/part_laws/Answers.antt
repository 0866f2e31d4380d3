use Rattle.stack_model.proofs.PartSound.{part_sound}
use Rattle.stack_part.proofs.PartSurveys.{part_surveyed}
use Rattle.stack_part.proofs.laws.part_laws.Goals as goal

pub returns : goal.returns
returns c = record { sound = part_sound; surveyed = part_surveyed }
