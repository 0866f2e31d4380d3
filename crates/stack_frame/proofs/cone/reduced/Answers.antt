use Rattle.std.proofs.Common.{rules}
use Rattle.stack_frame.proofs.LesserCones.{divisor-positive, lowest-cone}
use Rattle.stack_frame.proofs.cone.reduced.Goals as goal

pub nonzero_div-result : goal.nonzero_div-result
nonzero_div-result c = divisor-positive c.args.of _ _ c.requires c.common_divisor-divisor.ensures

pub nonzero_div-result-2 : goal.nonzero_div-result-2
nonzero_div-result-2 c = divisor-positive c.args.of _ _ c.requires c.common_divisor-divisor.ensures

pub invariant_of-result : goal.invariant_of-result
invariant_of-result c = lowest-cone c.args.of _ c.requires (search rules)
