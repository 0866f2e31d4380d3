use Rattle.stack_rational.proofs.TotalOrder.{order_laws}
use Rattle.stack_rational.proofs.laws.order_law.Goals as goal

pub returns : goal.returns
returns c = order_laws
