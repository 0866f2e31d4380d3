use Rattle.std.proofs.Common.{◌≡◌, ◌<◌, length, drop, ◌+ℤ◌, ◌*ℤ◌}
use Rattle.std.specs.List.{AllWithin}
use Rattle.stack_rational.proofs.Common.{sum_of}
use Rattle.stack_rows.specs.RowForm.{number_at}
use Rattle.stack_rows.specs.EntriesSeen.{entries_of}
use Rattle.stack_inverse.proofs.making.sum_over.Given as goal

-- the sum so far, and the products of the cells that are left; the cells so far stand among the entries
abbrev pub invariant-loop-cell : goal.invariant-loop-cell
invariant-loop-cell l = (l.sum +ℤ sum_of (λ x. number_at (entries_of l.entries) x.row *ℤ x.value)
    (drop l.cell-index l.cells) ≡ sum_of (λ x. number_at (entries_of l.entries) x.row *ℤ x.value) l.cells)
    × AllWithin (λ x. x.row < length (entries_of l.entries)) l.cells 0 l.cell-index
