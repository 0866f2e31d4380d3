use Rattle.std.proofs.Common.{◌≢◌, ℕ, suc, ◌/◌}
use Rattle.std.specs.List.{AllWithin}
use Rattle.stack_inverse.specs.Marks.{mark_at, HaveWords}
use Rattle.stack_inverse.proofs.marks.mark_use.Given as goal

abbrev pub invariant-loop-cell : goal.invariant-loop-cell
invariant-loop-cell l = record {
  wide : HaveWords l.uses (suc (l.width / 64));
  kept : (r i : ℕ) → mark_at l.fn.uses r i ≢ 0 → mark_at l.uses r i ≢ 0;
  marked : AllWithin (λ x. mark_at l.uses x.row l.j ≢ 0) l.cells 0 l.cell-index;
}
