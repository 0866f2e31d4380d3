use Rattle.std.proofs.Common.{rules, ap, SFits}
use mir.Syntax.{w128}
use Rattle.stack_whole.specs.Whole.{whole}
use Rattle.stack_equilibrium.proofs.Products.{turn_product, turn_stored, turn_is_within}
use Rattle.stack_equilibrium.proofs.force.turn.Goals as goal

pub overflow_mul-result : goal.overflow_mul-result
overflow_mul-result c =
    let f : SFits w128 c.args.arm.value = search rules in
    let g : SFits w128 c.args.force.value = search rules in
    turn_product c.args.arm.value c.args.force.value f g c.requires.arm c.requires.force

pub returns-clause-value : goal.returns-clause-value
returns-clause-value c =
    let f : SFits w128 c.args.arm.value = search rules in
    let g : SFits w128 c.args.force.value = search rules in
    ap whole (turn_stored c.args.arm.value c.args.force.value f g c.requires.arm c.requires.force)

pub returns-clause-size : goal.returns-clause-size
returns-clause-size c =
    let f : SFits w128 c.args.arm.value = search rules in
    let g : SFits w128 c.args.force.value = search rules in
    turn_is_within c.args.arm.value c.args.force.value f g c.requires.arm c.requires.force
