use Rattle.std.proofs.Common.{ap}
use Rattle.stack_whole.specs.Whole.{whole}
use Rattle.stack_equilibrium.proofs.Products.{way_stored, way_is_step}
use Rattle.stack_equilibrium.proofs.force.step.Goals as goal

pub returns-clause-value : goal.returns-clause-value
returns-clause-value c = ap whole (way_stored c.args.value c.args.from c.ranges.value c.ranges.from)

pub returns-clause-size : goal.returns-clause-size
returns-clause-size c = way_is_step c.args.value c.args.from c.ranges.value c.ranges.from
