use Rattle.std.proofs.Common.{◌∙◌}
use Rattle.stack_bland.proofs.OrderBySign.{order_sign}
use Rattle.stack_bland.proofs.signs.compare.Goals as goal

pub returns : goal.returns
returns g c = c.order.ensures ∙ order_sign (g.S.Exact.exact c.args.x) (g.S.Exact.exact c.args.y)
