use Rattle.std.proofs.Common.{◌≡◌, None}
use Rattle.stack_rational.proofs.Common.{ordered_fractions, first, is_too_wide}
use Rattle.stack_table.specs.Block.{IsBlock, Grows}
use Rattle.stack_table.specs.Lent.{problem_of}
use Rattle.stack_table.specs.WrittenTable.{first_row, number_place}
use Rattle.stack_table.proofs.building.push_row.Given as goal

abbrev pub invariant-loop-j : goal.invariant-loop-j
invariant-loop-j g l = record {
  block : IsBlock g.S.Exact.MAX g.S.Exact.exact l.cells.items l.marks.items;
  grown : Grows g.S.Exact.exact l.fn.cells.items l.cells.items l.j
      (first_row ordered_fractions (problem_of l.p) l.i);
  none : first l.j (number_place ordered_fractions (is_too_wide g.S.Exact.MAX) (problem_of l.p) l.i) ≡ None;
}
