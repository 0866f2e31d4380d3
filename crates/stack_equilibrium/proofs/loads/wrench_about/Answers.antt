use Rattle.std.proofs.Common.{◌∙◌}
use Rattle.stack_equilibrium.specs.LoadSizes.{force_in, moment_with, sixfold_of}
use Rattle.stack_equilibrium.proofs.loads.wrench_about.Goals as goal

pub returns-clause-value : goal.returns-clause-value
returns-clause-value c =
    c.sixfold.ensures.value
    ∙ (λ i. sixfold_of (c.force_of-force.ensures.value i) (c.moment.ensures.value i).value)
    ∙ (λ i. sixfold_of (force_in c.args.load)
    (moment_with (c.arm_of.ensures.value i) (c.force_of-force.ensures.value i)))
