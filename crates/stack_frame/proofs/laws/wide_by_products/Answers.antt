use Rattle.stack_frame.proofs.MadeNumbers.{size-too_wide}
use Rattle.stack_frame.proofs.laws.wide_by_products.Goals as goal

pub returns : goal.returns
returns c = size-too_wide
