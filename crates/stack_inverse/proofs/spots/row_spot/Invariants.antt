use Rattle.std.proofs.Common.{◌≡◌, None}
use Rattle.stack_rational.proofs.Common.{first, over, ordered_fractions, widest, is_too_wide}
use Rattle.stack_table.specs.Spots.{reduce_item}
use Rattle.stack_rows.specs.RowSeen.{numbers_of}
use Rattle.stack_inverse.specs.Columns.{cell_with}
use Rattle.stack_inverse.proofs.spots.row_spot.Given as goal

-- no step so far
abbrev pub invariant-loop-j : goal.invariant-loop-j
invariant-loop-j l = first l.j (reduce_item ordered_fractions (is_too_wide widest)
    (cell_with l.first.rows l.first.columns.items (numbers_of l.row) l.s.under)
    (cell_with l.first.rows l.first.columns.items (numbers_of l.pivot) l.s.pivot_under)
    (over l.s.number l.s.under) l.i) ≡ None
