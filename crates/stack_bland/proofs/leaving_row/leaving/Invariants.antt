use Rattle.std.proofs.Common.{◌≡◌, None}
use Rattle.stack_rational.proofs.Common.{first, ordered_fractions, is_too_wide}
use Rattle.stack_table.specs.Seen.{shape_of_table, table_of}
use Rattle.stack_bland.specs.Choice.{ratio, ratio_item, best}
use Rattle.stack_bland.proofs.BestSoFar.{HoldsBest}
use Rattle.stack_bland.proofs.leaving_row.leaving.Given as goal

abbrev pub invariant-loop-i : goal.invariant-loop-i
invariant-loop-i g l =
    let S = shape_of_table l.t in
    let T = table_of l.t in
    record {
      none : first l.i (ratio_item ordered_fractions S (is_too_wide g.S.Exact.MAX) T l.column) ≡ None;
      held : HoldsBest g.S.Exact.exact (ratio ordered_fractions S T l.column) l.i l.best
          (best ordered_fractions (λ i. T.cell i l.column)
          (ratio ordered_fractions S T l.column) T.basic l.i);
    }
