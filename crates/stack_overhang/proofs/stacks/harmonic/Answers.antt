use Rattle.std.proofs.Common.{◌≤◌, ap, ◌∙◌, arith}
use Rattle.stack_overhang.specs.Limits.{are_laid}
use Rattle.stack_overhang.proofs.Laid.{harmonic_laid}
use Rattle.stack_overhang.proofs.stacks.harmonic.Goals as goal

pub stack-requires-clause-rows : goal.stack-requires-clause-rows
stack-requires-clause-rows c =
    let least : 1 ≤ c.args.n = omega arith in
    let most : c.args.n ≤ 10 = omega arith in
    ap are_laid (c.deref.ensures.value ∙ c.in_ok-rows.ensures) ∙ harmonic_laid c.args.n least most
