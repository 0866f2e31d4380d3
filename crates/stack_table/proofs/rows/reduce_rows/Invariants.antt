use Rattle.std.proofs.Common.{◌≡◌, ℕ, ◌<◌, ◌≤◌, length, None}
use Rattle.stack_rational.proofs.Common.{ordered_fractions, is_too_wide}
use Rattle.stack_table.specs.Spots.{reduced, rows_spot}
use Rattle.stack_table.specs.Block.{item_value, cell_of, IsBlock}
use Rattle.stack_table.proofs.rows.reduce_rows.Given as goal

abbrev pub invariant-loop-i : goal.invariant-loop-i
invariant-loop-i g l = record {
  block : IsBlock g.S.Exact.MAX g.S.Exact.exact l.cells l.marks;
  done : (k j : ℕ) → k < l.i → cell_of g.S.Exact.exact (length l.pivot) l.cells k j
      ≡ reduced ordered_fractions (cell_of g.S.Exact.exact (length l.pivot) l.fn.cells k)
      (item_value g.S.Exact.exact l.pivot)
      (cell_of g.S.Exact.exact (length l.pivot) l.fn.cells k l.column) j;
  rest : (k j : ℕ) → l.i ≤ k → cell_of g.S.Exact.exact (length l.pivot) l.cells k j ≡ cell_of g.S.Exact.exact
      (length l.pivot) l.fn.cells k j;
  none : rows_spot ordered_fractions (is_too_wide g.S.Exact.MAX) l.i (length l.pivot)
      (cell_of g.S.Exact.exact (length l.pivot) l.fn.cells)
      (item_value g.S.Exact.exact l.pivot) l.column l.first ≡ None;
}
