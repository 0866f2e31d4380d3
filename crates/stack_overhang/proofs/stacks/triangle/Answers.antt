use Rattle.std.proofs.Common.{◌≤◌, ap, ◌∙◌, arith}
use Rattle.stack_overhang.specs.Limits.{are_laid}
use Rattle.stack_overhang.proofs.Laid.{triangle_laid}
use Rattle.stack_overhang.proofs.stacks.triangle.Goals as goal

pub stack-requires-clause-rows : goal.stack-requires-clause-rows
stack-requires-clause-rows c =
    let least : 1 ≤ c.args.m = omega arith in
    let most : c.args.m ≤ 10 = omega arith in
    ap are_laid (c.deref.ensures.value ∙ c.in_ok-rows.ensures) ∙ triangle_laid c.args.m least most
