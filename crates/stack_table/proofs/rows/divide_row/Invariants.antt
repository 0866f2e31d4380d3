use Rattle.std.proofs.Common.{◌≡◌, ℕ, ◌<◌, ◌≤◌, List, Bool, None}
use Rattle.stack_rational.proofs.Common.{ordered_fractions, is_too_wide}
use Rattle.stack_table.specs.Spots.{divided, divide_spot}
use Rattle.stack_table.specs.Block.{item_value, IsBlock}
use Rattle.stack_table.proofs.rows.divide_row.Given as goal

abbrev pub invariant-loop-j : goal.invariant-loop-j
invariant-loop-j g l = record {
  block : (marks : List Bool) → IsBlock g.S.Exact.MAX g.S.Exact.exact l.fn.cells marks →
      IsBlock g.S.Exact.MAX g.S.Exact.exact l.cells marks;
  done : (k : ℕ) → k < l.j →
      item_value g.S.Exact.exact l.cells k ≡ divided ordered_fractions (item_value g.S.Exact.exact l.fn.cells)
      (g.S.Exact.exact l.divisor) k;
  rest : (k : ℕ) → l.j ≤ k → item_value g.S.Exact.exact l.cells k ≡ item_value g.S.Exact.exact l.fn.cells k;
  none : divide_spot ordered_fractions (is_too_wide g.S.Exact.MAX) l.j (item_value g.S.Exact.exact l.fn.cells)
      (g.S.Exact.exact l.divisor) l.row ≡ None;
}
