use Rattle.std.proofs.Common.{sym, ap, ◌∙◌}
use Rattle.stack_rational.proofs.Common.{is_zero}
use Rattle.stack_table.proofs.Blocks.{value_at-index}
use Rattle.stack_table.proofs.rows.is_zero_at.Goals as goal

pub returns : goal.returns
returns g c = c.is_zero.ensures ∙ ap is_zero (sym (value_at-index g.S.Exact.exact c.args.cells.now c.args.at
    c.index-cells-at.result c.requires c.index-cells-at.is))
