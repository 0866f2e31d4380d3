use Rattle.std.proofs.Common.{◌∙◌}
use Rattle.stack_bland.proofs.OrderBySign.{order_sign}
use Rattle.stack_tableau.proofs.full.TableTableau.order_of.Goals as goal

pub returns-clause-value : goal.returns-clause-value
returns-clause-value g c = c.order.ensures ∙ order_sign (g.S.Exact.exact c.args.x) (g.S.Exact.exact c.args.y)
