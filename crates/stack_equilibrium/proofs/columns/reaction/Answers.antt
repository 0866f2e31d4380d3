use Rattle.std.proofs.Common.{◌∙◌}
use Rattle.stack_equilibrium.proofs.Products.{opposite_stored, moment_stored}
use Rattle.stack_equilibrium.proofs.columns.reaction.Goals as goal

pub returns-clause-value : goal.returns-clause-value
returns-clause-value c =
    let w = c.args.wrench in
    (λ i. record {
      fx = moment_stored c.against.result.value c.against.ensures.size i;
      fy = moment_stored c.against-2.result.value c.against-2.ensures.size i;
      m = moment_stored c.against-3.result.value c.against-3.ensures.size i;
    })
    ∙ (λ i. record {
      fx = (c.against.ensures.value i).value;
      fy = (c.against-2.ensures.value i).value;
      m = (c.against-3.ensures.value i).value;
    })
    ∙ (λ i. record {
      fx = opposite_stored w.fx c.requires.fx i;
      fy = opposite_stored w.fy c.requires.fy i;
      m = opposite_stored w.m c.requires.m i;
    })
