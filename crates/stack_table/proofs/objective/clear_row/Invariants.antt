use Rattle.std.proofs.Common.{◌≡◌, ℕ, ◌<◌, pos}
use Rattle.stack_rational.proofs.Common.{of}
use Rattle.stack_table.specs.Block.{item_value, IsBlock}
use Rattle.stack_table.proofs.objective.clear_row.Given as goal

abbrev pub invariant-loop-j : goal.invariant-loop-j
invariant-loop-j g l = record {
  block : IsBlock g.S.Exact.MAX g.S.Exact.exact l.cells l.marks;
  done : (k : ℕ) → k < l.j → item_value g.S.Exact.exact l.cells k ≡ of (pos 0);
}
