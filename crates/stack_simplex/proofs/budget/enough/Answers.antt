use Rattle.std.proofs.Common.{arith}
use Rattle.stack_run.proofs.Budgets.{shifted}
use Rattle.stack_simplex.proofs.budget.enough.Goals as goal

pub returns : goal.returns
returns c = shifted c.args.columns (omega (arith, c.if-columns-gt-MOST_COLUMNS.false))
