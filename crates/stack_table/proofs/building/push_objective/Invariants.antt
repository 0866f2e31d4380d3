use Rattle.std.proofs.Common.{◌≡◌, None}
use Rattle.stack_rational.proofs.Common.{ordered_fractions, first, is_too_wide}
use Rattle.stack_table.specs.Table.{width}
use Rattle.stack_table.specs.Block.{cell_of, IsBlock, Grows}
use Rattle.stack_table.specs.Lent.{shape_of_problem}
use Rattle.stack_table.specs.WrittenTable.{objective_over, objective_place}
use Rattle.stack_table.proofs.building.push_objective.Given as goal

abbrev pub invariant-loop-j : goal.invariant-loop-j
invariant-loop-j g l = record {
  block : IsBlock g.S.Exact.MAX g.S.Exact.exact l.cells.items l.marks.items;
  grown : Grows g.S.Exact.exact l.fn.cells.items l.cells.items l.j (objective_over ordered_fractions
      (shape_of_problem l.p) (cell_of g.S.Exact.exact (width (shape_of_problem l.p)) l.fn.cells.items));
  none : first l.j (objective_place ordered_fractions (is_too_wide g.S.Exact.MAX) (shape_of_problem l.p)
      (cell_of g.S.Exact.exact (width (shape_of_problem l.p)) l.fn.cells.items)) ≡ None;
}
