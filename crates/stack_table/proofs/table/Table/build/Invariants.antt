use Rattle.std.proofs.Common.{◌≡◌, ℕ, ◌+◌, ◌*◌, ◌<◌, length, get_or, false, None}
use Rattle.stack_rational.proofs.Common.{ordered_fractions, first, is_too_wide}
use Rattle.stack_table.specs.Table.{plain, width}
use Rattle.stack_table.specs.Block.{cell_of, IsBlock}
use Rattle.stack_table.specs.Problem.{flipped}
use Rattle.stack_table.specs.Lent.{shape_of_problem, problem_of}
use Rattle.stack_table.specs.WrittenTable.{first_row, row_place}
use Rattle.stack_table.proofs.table.Table.build.Given as goal

abbrev pub invariant-loop-i : goal.invariant-loop-i
invariant-loop-i g l = record {
  block : IsBlock g.S.Exact.MAX g.S.Exact.exact l.cells.items l.marks.items;
  long : length l.cells.items ≡ l.i * width (shape_of_problem l.p);
  cells : (k j : ℕ) → k < l.i → j < width (shape_of_problem l.p) →
      cell_of g.S.Exact.exact (width (shape_of_problem l.p)) l.cells.items k j
      ≡ first_row ordered_fractions (problem_of l.p) k j;
  none : first l.i (row_place ordered_fractions (is_too_wide g.S.Exact.MAX) (problem_of l.p)) ≡ None;
  basic_long : length l.basic.items ≡ l.i;
  basics : (k : ℕ) → k < l.i → get_or l.basic.items k 0 ≡ plain (shape_of_problem l.p) + k;
  flipped_long : length l.flipped.items ≡ l.i;
  flips_are : (k : ℕ) → k < l.i → get_or l.flipped.items k false ≡ flipped (problem_of l.p) k;
}
