use Rattle.std.proofs.Common.{rules, ap, SFits, subst, sym, ◌∙◌, ◌*ℤ◌}
use mir.Syntax.{w64, w128}
use Rattle.std.proofs.lemmas.Int.{to_z-of_z}
use Rattle.stack_whole.specs.Whole.{whole}
use Rattle.stack_equilibrium.specs.SwaySizes.{IsShareOfWeight}
use Rattle.stack_equilibrium.proofs.SwaySizes.{swayed_fits, swayed_stored, swayed_is_within}
use Rattle.stack_equilibrium.proofs.sway.swayed.Goals as goal

pub overflow_mul-result : goal.overflow_mul-result
overflow_mul-result c =
    let f : SFits w128 c.args.number.value = search rules in
    let g : SFits w128 c.from.result = search rules in
    swayed_fits c.args.number.value c.from.result c.requires.number
    (subst IsShareOfWeight (sym (c.from.ensures ∙ to_z-of_z w64 c.args.sway c.ranges.sway)) c.requires.sway) f g

pub returns-clause-value : goal.returns-clause-value
returns-clause-value c =
    let f : SFits w128 c.args.number.value = search rules in
    let g : SFits w128 c.from.result = search rules in
    let same = c.from.ensures ∙ to_z-of_z w64 c.args.sway c.ranges.sway in
    ap whole (swayed_stored c.args.number.value c.from.result c.requires.number
    (subst IsShareOfWeight (sym same) c.requires.sway) f g ∙ ap (λ s. c.args.number.value *ℤ s) same)

pub returns-clause-size : goal.returns-clause-size
returns-clause-size c =
    let f : SFits w128 c.args.number.value = search rules in
    let g : SFits w128 c.from.result = search rules in
    swayed_is_within c.args.number.value c.from.result c.requires.number
    (subst IsShareOfWeight (sym (c.from.ensures ∙ to_z-of_z w64 c.args.sway c.ranges.sway)) c.requires.sway) f g
