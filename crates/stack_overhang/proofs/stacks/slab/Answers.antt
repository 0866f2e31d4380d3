use Rattle.std.proofs.Common.{◌≤◌, ap, ◌∙◌, arith}
use Rattle.stack_overhang.specs.Limits.{are_laid}
use Rattle.stack_overhang.proofs.Laid.{slab_laid}
use Rattle.stack_overhang.proofs.stacks.slab.Goals as goal

pub stack-requires-clause-rows : goal.stack-requires-clause-rows
stack-requires-clause-rows c =
    let least : 1 ≤ c.args.d = omega arith in
    let most : c.args.d ≤ 6 = omega arith in
    ap are_laid (c.deref.ensures.value ∙ c.in_ok-rows.ensures) ∙ slab_laid c.args.d least most
