use Rattle.std.proofs.Common.{◌≡◌, ℕ, ◌<◌, ◌≤◌, None}
use Rattle.stack_rational.proofs.Common.{ordered_fractions, is_too_wide}
use Rattle.stack_table.specs.Spots.{reduced, reduce_spot}
use Rattle.stack_table.specs.Block.{item_value, IsBlock}
use Rattle.stack_table.proofs.rows.reduce_row.Given as goal

abbrev pub invariant-loop-j : goal.invariant-loop-j
invariant-loop-j g l = record {
  block : IsBlock g.S.Exact.MAX g.S.Exact.exact l.cells l.marks;
  done : (i : ℕ) → i < l.j →
      item_value g.S.Exact.exact l.cells i ≡ reduced ordered_fractions (item_value g.S.Exact.exact l.fn.cells)
      (item_value g.S.Exact.exact l.pivot) (item_value g.S.Exact.exact l.fn.cells l.column) i;
  rest : (i : ℕ) → l.j ≤ i → item_value g.S.Exact.exact l.cells i ≡ item_value g.S.Exact.exact l.fn.cells i;
  none : reduce_spot ordered_fractions (is_too_wide g.S.Exact.MAX) l.j
      (item_value g.S.Exact.exact l.fn.cells) (item_value g.S.Exact.exact l.pivot)
      (item_value g.S.Exact.exact l.fn.cells l.column) l.row ≡ None;
}
