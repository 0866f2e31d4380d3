use Rattle.stack_equilibrium.proofs.SceneSums.{sums_are}
use Rattle.stack_equilibrium.proofs.SceneRates.{rates_are}
use Rattle.stack_equilibrium.proofs.ScenePowers.{power_is}
use Rattle.stack_equilibrium.proofs.surveys.written_laws.Goals as goal

pub returns : goal.returns
returns c = record { sums = sums_are; rates = rates_are; powers = power_is }
