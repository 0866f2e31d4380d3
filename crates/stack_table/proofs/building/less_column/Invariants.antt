use Rattle.std.proofs.Common.{◌≡◌, true, None}
use Rattle.stack_rational.proofs.Common.{ordered_fractions, first, fraction_fits, is_too_wide}
use Rattle.stack_table.specs.Block.{cell_of}
use Rattle.stack_table.specs.WrittenTable.{less_all, partial_place}
use Rattle.stack_table.specs.declared.problem.BuildError.TheVariants.{Wide}
use Rattle.stack_table.proofs.building.less_column.Given as goal

abbrev pub invariant-loop-i : goal.invariant-loop-i
invariant-loop-i g l = record {
  value : g.S.Exact.exact l.sum
      ≡ less_all ordered_fractions l.i (λ i. cell_of g.S.Exact.exact l.width l.cells i l.column);
  fitting : fraction_fits g.S.Exact.MAX (g.S.Exact.exact l.sum) ≡ true;
  none : first l.i (partial_place ordered_fractions (is_too_wide g.S.Exact.MAX) (Wide l.rows l.column)
      (λ i. cell_of g.S.Exact.exact l.width l.cells i l.column)) ≡ None;
}
