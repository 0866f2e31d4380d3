use Rattle.std.proofs.Common.{rules, ap, SFits}
use mir.Syntax.{w128}
use Rattle.stack_whole.specs.Whole.{whole}
use Rattle.stack_equilibrium.proofs.Products.{share_product, share_stored, share_is_within}
use Rattle.stack_equilibrium.proofs.columns.share.Goals as goal

pub overflow_mul-result : goal.overflow_mul-result
overflow_mul-result c =
    let f : SFits w128 c.args.rate.value = search rules in
    let g : SFits w128 c.args.step.value = search rules in
    share_product c.args.rate.value c.args.step.value f g c.requires.rate c.requires.step

pub returns-clause-value : goal.returns-clause-value
returns-clause-value c =
    let f : SFits w128 c.args.rate.value = search rules in
    let g : SFits w128 c.args.step.value = search rules in
    ap whole (share_stored c.args.rate.value c.args.step.value f g c.requires.rate c.requires.step)

pub returns-clause-size : goal.returns-clause-size
returns-clause-size c =
    let f : SFits w128 c.args.rate.value = search rules in
    let g : SFits w128 c.args.step.value = search rules in
    share_is_within c.args.rate.value c.args.step.value f g c.requires.rate c.requires.step
