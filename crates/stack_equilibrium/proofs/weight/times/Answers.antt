use Rattle.std.proofs.Common.{rules, ap, SFits}
use mir.Syntax.{w128}
use Rattle.stack_whole.specs.Whole.{whole}
use Rattle.stack_equilibrium.proofs.Products.{times_product, times_stored, times_is_within}
use Rattle.stack_equilibrium.proofs.weight.times.Goals as goal

pub overflow_mul-result : goal.overflow_mul-result
overflow_mul-result c =
    let f : SFits w128 c.args.factor.value = search rules in
    let g : SFits w128 c.args.twice_area.value = search rules in
    times_product c.args.factor.value c.args.twice_area.value f g c.requires.factor c.requires.area

pub returns-clause-value : goal.returns-clause-value
returns-clause-value c =
    let f : SFits w128 c.args.factor.value = search rules in
    let g : SFits w128 c.args.twice_area.value = search rules in
    ap whole (times_stored c.args.factor.value c.args.twice_area.value f g c.requires.factor c.requires.area)

pub returns-clause-size : goal.returns-clause-size
returns-clause-size c =
    let f : SFits w128 c.args.factor.value = search rules in
    let g : SFits w128 c.args.twice_area.value = search rules in
    times_is_within c.args.factor.value c.args.twice_area.value f g c.requires.factor c.requires.area
