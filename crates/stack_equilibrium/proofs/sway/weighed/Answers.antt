use Rattle.std.proofs.Common.{rules, ap, sym, subst, SFits, ◌∙◌}
use mir.Syntax.{w64, w128}
use Rattle.std.proofs.lemmas.Int.{to_z-of_z}
use Rattle.stack_whole.specs.Whole.{whole}
use Rattle.stack_equilibrium.proofs.Products.{weighed_fits, weighed_factors, weighed_stored, weighed_is_within}
use Rattle.stack_equilibrium.proofs.sway.weighed.Goals as goal

pub overflow_mul-result : goal.overflow_mul-result
overflow_mul-result c =
    let g : SFits w128 c.args.number.value = search rules in
    subst (SFits w128) (sym (weighed_factors c.args.unit c.from.result c.args.number.value c.requires.unit
    c.requires.number (c.from.ensures ∙ to_z-of_z w64 c.args.unit c.ranges.unit) g))
    (weighed_fits c.args.unit c.from.result c.args.number.value c.requires.unit c.requires.number)

pub returns-clause-value : goal.returns-clause-value
returns-clause-value c =
    let g : SFits w128 c.args.number.value = search rules in
    ap whole (weighed_stored c.args.unit c.from.result c.args.number.value c.requires.unit c.requires.number
    (c.from.ensures ∙ to_z-of_z w64 c.args.unit c.ranges.unit) g)

pub returns-clause-size : goal.returns-clause-size
returns-clause-size c =
    let g : SFits w128 c.args.number.value = search rules in
    weighed_is_within c.args.unit c.from.result c.args.number.value c.requires.unit c.requires.number
    (c.from.ensures ∙ to_z-of_z w64 c.args.unit c.ranges.unit) g
