use Rattle.std.proofs.Common.{rules, ap, sym, subst, SFits, ◌∙◌}
use mir.Syntax.{w64, w128}
use Rattle.std.proofs.lemmas.Int.{to_z-of_z}
use Rattle.stack_whole.specs.Whole.{whole}
use Rattle.stack_equilibrium.proofs.Products.{weighed_fits, weighed_factors, weighed_less_fits, weighed_less}
use Rattle.stack_equilibrium.proofs.weight.downwards.Goals as goal

pub overflow_mul-result : goal.overflow_mul-result
overflow_mul-result c =
    let g : SFits w128 c.args.number.value = search rules in
    subst (SFits w128) (sym (weighed_factors c.args.unit c.from.result c.args.number.value c.requires.unit
    c.requires.number (c.from.ensures ∙ to_z-of_z w64 c.args.unit c.ranges.unit) g))
    (weighed_fits c.args.unit c.from.result c.args.number.value c.requires.unit c.requires.number)

pub overflow_sub-result : goal.overflow_sub-result
overflow_sub-result c =
    let g : SFits w128 c.args.number.value = search rules in
    weighed_less_fits c.args.unit c.from.result c.args.number.value c.requires.unit c.requires.number
    (c.from.ensures ∙ to_z-of_z w64 c.args.unit c.ranges.unit) g

pub returns : goal.returns
returns c =
    let g : SFits w128 c.args.number.value = search rules in
    ap whole (weighed_less c.args.unit c.from.result c.args.number.value c.requires.unit c.requires.number
    (c.from.ensures ∙ to_z-of_z w64 c.args.unit c.ranges.unit) g)
