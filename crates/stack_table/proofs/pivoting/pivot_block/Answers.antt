use Rattle.std.proofs.Common.{◌≡◌, sym, ap, subst, ◌∙◌, ℕ, suc, ◌<◌, ◌≤◌, ◌+◌, ◌-◌, ◌*◌, ◌++◌, length, arith}
use Rattle.std.proofs.Common.{Some, None}
use Rattle.std.proofs.lemmas.Result.{on_ok_weaker, MatchResult-weaker}
use Rattle.stack_rational.proofs.Common.{err_from_is_err_and, Fraction}
use Rattle.std.proofs.Math.Nat.{add-mul, suc-mul}
use Rattle.std.proofs.lemmas.Nat.{mul-le}
use Rattle.stack_table.proofs.BlockRows.{row_in}
use Rattle.stack_table.proofs.Parts.{Parted, parted, block_three}
use Rattle.stack_table.proofs.PivotSteps.{IsSplit, IsOwnDivided, divisor_is, spot_dividing, spot_above, spot_below}
use Rattle.stack_table.proofs.PivotSteps.{after}
use Rattle.stack_table.proofs.pivoting.pivot_block.Goals as goal
use Rattle.stack_table.proofs.pivoting.pivot_block.Goals.{After-split_at_mut-marks_below, After-index-own-column}
use Rattle.stack_table.proofs.pivoting.pivot_block.Goals.{In_ok-divide_row}

-- the three parts are blocks
parts : (g : _) (c : After-split_at_mut-marks_below g) → Parted g.S.Exact.MAX g.S.Exact.exact
    c.split_at_mut-above.result.0.now c.split_at_mut-own.result.0.now c.split_at_mut-own.result.1.now
    c.split_at_mut-marks_above.result.0.now c.split_at_mut-marks_below.result.0.now
    c.split_at_mut-marks_below.result.1.now
parts g c = parted g.S.Exact.exact g.S.Exact.MAX c.args.cells.now c.args.marks.now
    (c.args.row * c.args.width) c.args.width
    (row_in c.args.row (suc c.args.rows) c.args.width (length c.args.cells.now)
    (omega (arith, c.requires.row_in)) c.requires.whole) c.requires.block
    c.split_at_mut-above.result.0.now c.split_at_mut-above.result.1.now c.split_at_mut-own.result.0.now
    c.split_at_mut-own.result.1.now
    c.split_at_mut-marks_above.result.0.now c.split_at_mut-marks_above.result.1.now
    c.split_at_mut-marks_below.result.0.now c.split_at_mut-marks_below.result.1.now
    c.split_at_mut-above.ensures.front c.split_at_mut-above.ensures.back c.split_at_mut-own.ensures.front
    c.split_at_mut-own.ensures.back
    c.split_at_mut-marks_above.ensures.front c.split_at_mut-marks_above.ensures.back
    c.split_at_mut-marks_below.ensures.front c.split_at_mut-marks_below.ensures.back

-- the block in parts, and the divisor
split : (g : _) (c : After-index-own-column g) → IsSplit g.S.Exact.exact c.args.width c.args.row
    c.args.column c.args.cells.now c.split_at_mut-above.result.0.now c.split_at_mut-own.result.0.now
    c.split_at_mut-own.result.1.now c.index-own-column.result
split g c = record {
  whole = c.split_at_mut-above.ensures.value
      ∙ ap (λ ys. c.split_at_mut-above.result.0.now ++ ys) c.split_at_mut-own.ensures.value;
  rows_above = c.split_at_mut-above.ensures.front_len;
  row_length = c.split_at_mut-own.ensures.front_len;
  column_in = c.requires.column_in;
  divisor = c.index-own-column.is;
}

divided : (g : _) (c : In_ok-divide_row g) → IsOwnDivided g.S.Exact.exact g.S.Exact.MAX c.args.row
    c.split_at_mut-own.result.0.now c.divide_row.new.cells c.index-own-column.result
divided g c = record {
  long = c.divide_row.auto.cells;
  value = c.in_ok-divide_row.ensures.ok;
  none = c.in_ok-divide_row.ensures.wide;
}

-- the row lies within the block
room : {row rows size : ℕ} (w : ℕ) → row < rows → size ≡ suc rows * w → row * w + w ≤ size
room {row} {rows} {size} w l e = row_in row (suc rows) w size (omega (arith, l)) e

pub overflow_mul-start : goal.overflow_mul-start
overflow_mul-start g c =
    omega (arith, room c.args.width c.requires.row_in c.requires.whole)

pub split_at_mut-above-requires : goal.split_at_mut-above-requires
split_at_mut-above-requires g c =
    omega (arith, room c.args.width c.requires.row_in c.requires.whole)

pub split_at_mut-own-requires : goal.split_at_mut-own-requires
split_at_mut-own-requires g c =
    let l = room c.args.width c.requires.row_in c.requires.whole in
    omega (arith, l, c.split_at_mut-above.ensures.back_len)

pub split_at_mut-marks_above-requires : goal.split_at_mut-marks_above-requires
split_at_mut-marks_above-requires g c =
    omega (arith, room c.args.width c.requires.row_in c.requires.whole, c.requires.block.same)

pub split_at_mut-marks_below-requires : goal.split_at_mut-marks_below-requires
split_at_mut-marks_below-requires g c =
    let l = room c.args.width c.requires.row_in c.requires.whole in
    omega (arith, l, c.requires.block.same, c.split_at_mut-marks_above.ensures.back_len)

pub overflow_add-row : goal.overflow_add-row
overflow_add-row g c = omega (arith, c.requires.row_in, c.ranges.rows.fits)

pub overflow_sub-rows : goal.overflow_sub-rows
overflow_sub-rows g c = omega (arith, c.requires.row_in)

pub reduce_rows-requires-clause-numbers : goal.reduce_rows-requires-clause-numbers
reduce_rows-requires-clause-numbers g c = omega (arith, c.requires.row_in, c.ranges.rows.fits)

pub returns-in_err-divide_row-clause-ok : goal.returns-in_err-divide_row-clause-ok
returns-in_err-divide_row-clause-ok g c =
    rw (err_from_is_err_and c.from_residual.result c.from_residual.ensures.1).1 tt

pub returns-in_err-reduce_rows-clause-ok : goal.returns-in_err-reduce_rows-clause-ok
returns-in_err-reduce_rows-clause-ok g c = rw (err_from_is_err_and
    c.from_residual-in_err-reduce_rows.result c.from_residual-in_err-reduce_rows.ensures.1).1 tt

-- the column is in the row, before and after the row is divided
pub bounds-own-column : goal.bounds-own-column
bounds-own-column g c = subst (λ (n : ℕ). c.args.column < n) (sym c.split_at_mut-own.ensures.front_len)
    c.requires.column_in

column_in : (g : _) (c : In_ok-divide_row g) → c.args.column < length c.divide_row.new.cells
column_in g c = subst (λ (n : ℕ). c.args.column < n)
    (sym (c.divide_row.auto.cells ∙ c.split_at_mut-own.ensures.front_len)) c.requires.column_in

pub reduce_rows-requires-clause-whole : goal.reduce_rows-requires-clause-whole
reduce_rows-requires-clause-whole g c = c.split_at_mut-above.ensures.front_len
    ∙ ap (λ n. c.args.row * n) (sym (c.divide_row.auto.cells ∙ c.split_at_mut-own.ensures.front_len))

pub reduce_rows-requires-clause-column_in : goal.reduce_rows-requires-clause-column_in
reduce_rows-requires-clause-column_in g c =
    column_in g (goal.at.reduce_rows-requires-clause-column_in g c).In_ok-divide_row

pub reduce_rows-requires-2-clause-column_in : goal.reduce_rows-requires-2-clause-column_in
reduce_rows-requires-2-clause-column_in g c =
    column_in g (goal.at.reduce_rows-requires-2-clause-column_in g c).In_ok-divide_row

pub divide_row-requires : goal.divide_row-requires
divide_row-requires g c = record {
  divisor = λ z. c.requires.cell
      (sym (ap (λ (v : Fraction). v.num)
      (divisor_is g.S.Exact.MAX (split g (goal.at.divide_row-requires g c).After-index-own-column))) ∙ z);
}

pub returns-in_err-divide_row-clause-block : goal.returns-in_err-divide_row-clause-block
returns-in_err-divide_row-clause-block g c =
    let at = goal.at.returns-in_err-divide_row-clause-block g c in
    let p = parts g at.After-split_at_mut-marks_below in
    block_three g.S.Exact.exact g.S.Exact.MAX _ _ _ _ _ _ p.above_is
    (c.in_err-divide_row.ensures.block _ p.own_is) p.below_is

pub returns-in_err-divide_row-clause-wide : goal.returns-in_err-divide_row-clause-wide
returns-in_err-divide_row-clause-wide g c =
    let at = goal.at.returns-in_err-divide_row-clause-wide g c in
    let p =
    err_from_is_err_and c.from_residual.result c.from_residual.ensures.1 in
    rw (p.1, p.2) (spot_dividing g.S.Exact.MAX (split g at.After-index-own-column)
    (suc c.args.rows) _ c.in_err-divide_row.ensures.wide)

pub reduce_rows-requires-clause-block : goal.reduce_rows-requires-clause-block
reduce_rows-requires-clause-block g c =
    (parts g (goal.at.reduce_rows-requires-clause-block g c).After-split_at_mut-marks_below).above_is

pub returns-in_err-reduce_rows-clause-block : goal.returns-in_err-reduce_rows-clause-block
returns-in_err-reduce_rows-clause-block g c =
    let at = goal.at.returns-in_err-reduce_rows-clause-block g c in
    let p = parts g at.After-split_at_mut-marks_below in
    block_three g.S.Exact.exact g.S.Exact.MAX _ _ _ _ _ _ c.in_err-reduce_rows.ensures.block
    (c.in_ok-divide_row.ensures.block _ p.own_is) p.below_is

pub returns-in_err-reduce_rows-clause-wide : goal.returns-in_err-reduce_rows-clause-wide
returns-in_err-reduce_rows-clause-wide g c =
    let at = goal.at.returns-in_err-reduce_rows-clause-wide g c in
    let p =
    err_from_is_err_and c.from_residual-in_err-reduce_rows.result c.from_residual-in_err-reduce_rows.ensures.1
    in
    rw (p.1, p.2) (spot_above g.S.Exact.MAX (split g at.After-index-own-column) (divided g at.In_ok-divide_row)
    (suc c.args.rows) _ (omega (arith, c.requires.row_in)) c.in_err-reduce_rows.ensures.wide)

pub reduce_rows-requires-2-clause-whole : goal.reduce_rows-requires-2-clause-whole
reduce_rows-requires-2-clause-whole g c = let w = c.args.width in
    let s : length c.divide_row.new.cells ≡ w = c.divide_row.auto.cells
    ∙ c.split_at_mut-own.ensures.front_len in
    let many : suc c.args.rows ≡ c.args.row + (1 + (c.args.rows - c.args.row)) =
    omega (arith, c.requires.row_in) in
    let all = c.requires.whole ∙ ap (λ n. n * w) many in
    omega (
      arith,
      s,
      ap (λ n. (c.args.rows - c.args.row) * n) s,
      all,
      add-mul c.args.row (1 + (c.args.rows - c.args.row)) w,
      suc-mul (c.args.rows - c.args.row) w,
      add-mul 1 (c.args.rows - c.args.row) w,
      c.split_at_mut-own.ensures.back_len,
      c.split_at_mut-above.ensures.back_len,
    )

-- there are no more rows than cells
rows_in : (n w c size : ℕ) → size ≡ suc n * w → c < w → suc n ≤ size
rows_in n w c size e l = omega (arith, e, mul-le (suc n) 1 (suc n) w (omega arith) (omega (arith, l)))

pub reduce_rows-requires-2-clause-numbers : goal.reduce_rows-requires-2-clause-numbers
reduce_rows-requires-2-clause-numbers g c =
    let l = rows_in c.args.rows c.args.width c.args.column (length c.args.cells.now) c.requires.whole
    c.requires.column_in in
    omega (arith, l, c.requires.row_in)

pub reduce_rows-requires-2-clause-block : goal.reduce_rows-requires-2-clause-block
reduce_rows-requires-2-clause-block g c =
    (parts g (goal.at.reduce_rows-requires-2-clause-block g c).After-split_at_mut-marks_below).below_is

pub returns-clause-block : goal.returns-clause-block
returns-clause-block g c =
    let p = parts g (goal.at.returns-clause-block g c).After-split_at_mut-marks_below in
    block_three g.S.Exact.exact g.S.Exact.MAX _ _ _ _ _ _ c.in_ok-reduce_rows.ensures.block
    (c.in_ok-divide_row.ensures.block _ p.own_is) c.reduce_rows-2.ensures.block

pub returns-clause-ok : goal.returns-clause-ok
returns-clause-ok g c =
    let at = goal.at.returns-clause-ok g c in
    on_ok_weaker c.reduce_rows-2.result
    (after g.S.Exact.MAX (split g at.After-index-own-column) (divided g at.In_ok-divide_row)
    c.reduce_rows.new.cells c.reduce_rows-2.new.cells c.reduce_rows.auto.cells c.in_ok-reduce_rows.ensures.ok)
    c.reduce_rows-2.ensures.ok

pub returns-clause-wide : goal.returns-clause-wide
returns-clause-wide g c =
    let at = goal.at.returns-clause-wide g c in
    let s = split g at.After-index-own-column in
    let d = divided g at.In_ok-divide_row in
    let l : c.args.row ≤ c.args.rows = omega (arith, c.requires.row_in) in
    let none = c.in_ok-reduce_rows.ensures.wide in
    MatchResult-weaker c.reduce_rows-2.result c.reduce_rows-2.ensures.wide
    (λ _. spot_below g.S.Exact.MAX s d c.args.rows None l none)
    (λ e. spot_below g.S.Exact.MAX s d c.args.rows (Some e) l none)
