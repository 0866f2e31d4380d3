use Rattle.std.proofs.Common.{sym, ap, subst, subst₂, ◌∙◌, suc, List, ℤ, arith, rules, SFits, to_z-of_z}
use Rattle.stack_rational.proofs.Common.{w128, widest, ℕ_discrete}
use Rattle.stack_rows.specs.RowForm.{number_at}
use Rattle.stack_rows.specs.RowSeen.{numbers_of}
use Rattle.stack_inverse.specs.RowBlock.{IsDividedRow, IsPivotedCells, AreFitting, KeepsZeros}
use Rattle.stack_inverse.specs.Columns.{RowSeen}
use Rattle.stack_inverse.specs.RowsSeen.{seen_at, number_in_row, cell_in_row, pivot_cell, columns_of, cells_of_rows}
use Rattle.stack_inverse.proofs.PutRow.{seen_index, seen_past, widths_put}
use Rattle.stack_inverse.proofs.PivotedRows.{refused, pivoted}
use Rattle.stack_inverse.proofs.pivoting.pivot_rows.Goals as goal
use Rattle.stack_inverse.proofs.pivoting.pivot_rows.Goals.{In-Some, After-put_pivot}

pub divide-requires-clause-number : goal.divide-requires-clause-number
divide-requires-clause-number c =
    let r = c.args.row in
    let fits : SFits w128 (number_at c.args.entered.now r) = search rules in
    to_z-of_z fits ∙ c.requires.entered r (omega (arith, c.requires.row_in))
    ∙ sym (ap (λ (s : RowSeen). number_in_row c.args.first.now s c.args.column)
    (seen_index c.args.rows.now r c.index-rows-row.result (omega (arith, c.requires.row_in, c.requires.height))
    c.index-rows-row.is))

pub returns-in-Ok-clause-widths : goal.returns-in-Ok-clause-widths
returns-in-Ok-clause-widths c = widths_put c.args.first.now.rows c.put_pivot.ensures c.in-Some.ensures.pivot.width
    c.reduce_others.ensures.widths

pub returns-in-Ok-clause-fit : goal.returns-in-Ok-clause-fit
returns-in-Ok-clause-fit c = λ k l. elim (ℕ_discrete k c.args.row) [
  | yes e ↦ ap (λ n. (seen_at c.put_pivot.new.rows n).fits) e ∙ c.put_pivot.ensures.own_fits
  | no n ↦ ap (λ (s : RowSeen). s.fits) (c.put_pivot.ensures.other k n)
      ∙ c.in-Ok.ensures.fit k (omega (arith, l)) n
]

-- the pivot row as its cells were divided
divided : (c : In-Some) → IsDividedRow widest (cell_in_row c.args.first.now (seen_at c.args.rows.now c.args.row))
    c.args.column (pivot_cell c.args.first.now c.divide.new.pivot)
divided c = subst (λ (s : RowSeen). IsDividedRow widest (cell_in_row c.args.first.now s) c.args.column
    (pivot_cell c.args.first.now c.divide.new.pivot))
    (seen_index c.args.rows.now c.args.row c.index-rows-row.result (omega (arith, c.requires.row_in, c.requires.height))
    c.index-rows-row.is) c.in-Some.ensures.ok

both : (c : After-put_pivot) → IsDividedRow widest (cell_in_row c.args.first.now
    (seen_at c.args.rows.now c.args.row)) c.args.column (pivot_cell c.args.first.now c.divide.new.pivot) →
    IsPivotedCells widest (suc c.args.first.now.rows) (columns_of c.args.first.now)
    (cells_of_rows c.args.first.now c.args.rows.now) c.args.row c.args.column
    (cells_of_rows c.args.first.now c.put_pivot.new.rows)
    × AreFitting widest (cells_of_rows c.args.first.now c.put_pivot.new.rows) (seen_at c.put_pivot.new.rows)
both c d =
    let f = c.args.first.now in
    let q = c.divide.new.pivot.divided.row in
    pivoted f.rows f.columns.items (seen_at c.args.rows.now) (numbers_of q) q.under c.args.row
    c.args.column d (λ k l. seen_past c.args.rows.now (suc f.rows) k c.requires.height (omega (arith, l)))
    (seen_at c.reduce_others.new.rows) (seen_at c.put_pivot.new.rows) c.requires.row_in
    (λ k l. seen_past c.reduce_others.new.rows (suc f.rows) k (c.reduce_others.auto.rows ∙ c.requires.height)
    (omega (arith, l))) c.put_pivot.ensures (λ k l n. (c.in-Ok.ensures.ok k l n).cells)

pub returns-in-Ok-clause-fitting : goal.returns-in-Ok-clause-fitting
returns-in-Ok-clause-fitting c = let p = goal.at.returns-in-Ok-clause-fitting c in
    (both p.After-put_pivot (divided p.In-Some)).1

pub returns-in-Ok-clause-ok : goal.returns-in-Ok-clause-ok
returns-in-Ok-clause-ok c = let p = goal.at.returns-in-Ok-clause-ok c in
    (both p.After-put_pivot (divided p.In-Some)).0

pub returns-in-Err-clause-refused : goal.returns-in-Err-clause-refused
returns-in-Err-clause-refused c =
    let f = c.args.first.now in
    let q = c.divide.new.pivot.divided.row in
    refused f.rows f.columns.items (seen_at c.args.rows.now) (numbers_of q) q.under c.args.row
    c.args.column (divided (goal.at.returns-in-Err-clause-refused c).In-Some)
    (λ k l. seen_past c.args.rows.now (suc f.rows) k c.requires.height (omega (arith, l))) c.in-Err.e
    c.in-Err.ensures.refused

pub returns-in-Ok-clause-zeros : goal.returns-in-Ok-clause-zeros
returns-in-Ok-clause-zeros c = λ k l n.
    let put = c.put_pivot.ensures in
    subst₂ (λ (xs : List ℤ) (s : RowSeen). KeepsZeros (seen_at c.args.rows.now k).numbers xs
    (number_in_row c.args.first.now (seen_at c.args.rows.now k) c.args.column) s.numbers) (sym put.own_numbers)
    (sym (put.other k n)) (c.in-Ok.ensures.ok k (omega (arith, l)) n).zeros

pub returns-in-Ok-clause-own_zeros : goal.returns-in-Ok-clause-own_zeros
returns-in-Ok-clause-own_zeros c = λ q z.
    let rows = c.args.rows.now in
    let same = seen_index rows c.args.row c.index-rows-row.result (omega (arith, c.requires.row_in, c.requires.height))
    c.index-rows-row.is in
    ap (λ (xs : List ℤ). number_at xs q) c.put_pivot.ensures.own_numbers
    ∙ c.in-Some.ensures.zeros q (ap (λ (s : RowSeen). number_at s.numbers q) same ∙ z)

pub returns-in-Ok-clause-own : goal.returns-in-Ok-clause-own
returns-in-Ok-clause-own c = sym c.put_pivot.ensures.own_numbers
