use Rattle.std.proofs.Common.{◌≡◌, ◌<◌, ◌≤◌, ◌^◌, unsigned_abs, length, drop, ◌+ℤ◌, ◌*ℤ◌}
use Rattle.std.specs.Int.{w128, int_wrap}
use Rattle.std.specs.List.{AllWithin}
use Rattle.stack_rational.proofs.Common.{sum_of}
use Rattle.stack_rows.specs.RowForm.{number_at}
use Rattle.stack_inverse.proofs.making.sum_words.Given as goal

-- the sum so far, and the products of the cells that are left; the cells so far stand among the words, which
-- are of 64 bits
abbrev pub invariant-loop-cell : goal.invariant-loop-cell
invariant-loop-cell l = (int_wrap w128 (l.sum +ℤ sum_of (λ x. number_at l.words x.row *ℤ x.value)
    (drop l.cell-index l.cells)) ≡ int_wrap w128 (sum_of (λ x. number_at l.words x.row *ℤ x.value) l.cells))
    × AllWithin (λ x. x.row < length l.words) l.cells 0 l.cell-index
    × AllWithin (λ x. unsigned_abs (number_at l.words x.row) ≤ 2 ^ 63) l.cells 0 l.cell-index
