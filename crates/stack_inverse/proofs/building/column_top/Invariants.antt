use Rattle.std.proofs.Common.{ℕ, ◌<◌, ◌≤◌}
use Rattle.stack_inverse.specs.Columns.{cells_at}
use Rattle.stack_inverse.specs.FirstTable.{sizes_in}
use Rattle.stack_inverse.proofs.building.column_top.Given as goal

abbrev pub invariant-loop-j : goal.invariant-loop-j
invariant-loop-j l = record {
  some : 0 < l.top;
  top : (k : ℕ) → k < l.j → sizes_in (cells_at l.columns k) ≤ l.top;
}
