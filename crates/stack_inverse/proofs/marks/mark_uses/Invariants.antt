use Rattle.std.proofs.Common.{◌≢◌, ℕ, suc, ◌/◌, ◌<◌, length}
use Rattle.std.specs.List.{AllByRecursion}
use Rattle.stack_inverse.specs.Columns.{cells_at}
use Rattle.stack_inverse.specs.Marks.{mark_at, HaveWords}
use Rattle.stack_inverse.proofs.marks.mark_uses.Given as goal

abbrev pub invariant-loop-j : goal.invariant-loop-j
invariant-loop-j l = record {
  wide : HaveWords l.uses (suc (length l.columns / 64));
  marked : (k : ℕ) → k < l.j → AllByRecursion (λ x. mark_at l.uses x.row k ≢ 0) (cells_at l.columns k);
}
