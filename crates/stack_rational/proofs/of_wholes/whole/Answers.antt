use Rattle.stack_rational.proofs.OverParts.{never_too_wide}
use Rattle.stack_rational.proofs.of_wholes.whole.Goals as goal

pub unreachable-requires : goal.unreachable-requires
unreachable-requires c = never_too_wide c.args.n c.requires c.in-Err.ensures.wide
