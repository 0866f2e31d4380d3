use Rattle.stack_rational.proofs.WiderAgrees.{wider_is_never_too_wide}
use Rattle.stack_rational.proofs.laws.wider_law.Goals as goal

pub returns : goal.returns
returns c = wider_is_never_too_wide
