use Rattle.stack_worked.proofs.TrueScenes.{true_of_worked_scenes}
use Rattle.stack_worked.proofs.FalseScenes.{false_of_worked_scenes}
use Rattle.stack_worked.proofs.laws.worked_scenes.Goals as goal

pub returns : goal.returns
returns c = record { holds = true_of_worked_scenes; fails = false_of_worked_scenes }
