use Rattle.std.proofs.Common.{◌≡◌, sym, ap, subst, ◌∙◌, ℕ, ◌<◌, ◌≤◌, ◌+◌, ◌*◌, List, length, cond, eqb, Option}
use Rattle.std.proofs.Common.{Some, None, arith, IfSome, pos, refl}
use Rattle.stack_rational.proofs.Common.{Fraction, of, ordered_fractions}
use Rattle.std.proofs.Math.Nat.{suc-mul}
use Rattle.stack_table.specs.Table.{factor_row}
use Rattle.stack_table.specs.Block.{cell_of}
use Rattle.stack_table.proofs.BlockRows.{row_in, block_join}
use Rattle.stack_table.proofs.Parts.{LastSplit, EndsIn, last_split, last_changed, first_rows}
use Rattle.stack_table.proofs.objective.set_last.Goals as goal
use Rattle.stack_table.proofs.objective.set_last.Goals.{After-split_at_mut-marks_above}

split : (g : _) (c : After-split_at_mut-marks_above g) →
    LastSplit g.S.Exact.MAX g.S.Exact.exact c.args.width c.args.rows
    c.args.cells.now c.split_at_mut-above.result.0.now c.split_at_mut-above.result.1.now
    c.split_at_mut-marks_above.result.0.now c.split_at_mut-marks_above.result.1.now
split g c = last_split g.S.Exact.exact g.S.Exact.MAX c.requires.whole c.requires.block
    c.split_at_mut-above.ensures.front c.split_at_mut-above.ensures.back
    c.split_at_mut-marks_above.ensures.front c.split_at_mut-marks_above.ensures.back

-- the row lies within the block above
row_within : (o : Option ℕ) (rows w v size : ℕ) → v ≡ w → size ≡ rows * w → IfSome o (λ r. r < rows) →
    IfSome o (λ r. r * v + v ≤ size)
row_within None rows w v size e s h = tt
row_within (Some r) rows w v size e s h = subst (λ n. r * n + n ≤ size) (sym e) (row_in r rows w size h s)

-- the row is the same above the last row as in the whole block
same_row : {V : Type 0} (e : V → Fraction) {w rows : ℕ} {cells above last : List V} →
    EndsIn w rows cells above last → (column : ℕ) (o : Option ℕ) → IfSome o (λ r. r < rows) → (j : ℕ) →
    factor_row ordered_fractions (cell_of e (length last) above) column o j
    ≡ factor_row ordered_fractions (cell_of e w cells) column o j
same_row e p column None h j = refl
same_row e {above = above} p column (Some r) h j = ap (cond (eqb j column) (of (pos 0)))
    (ap (λ n. cell_of e n above r j) p.row_length ∙ first_rows e p r j h)

pub overflow_mul-start : goal.overflow_mul-start
overflow_mul-start g c = omega (arith, c.requires.whole, suc-mul c.args.rows c.args.width)

pub split_at_mut-above-requires : goal.split_at_mut-above-requires
split_at_mut-above-requires g c = omega (arith, c.requires.whole, suc-mul c.args.rows c.args.width)

pub split_at_mut-marks_above-requires : goal.split_at_mut-marks_above-requires
split_at_mut-marks_above-requires g c = omega (
  arith,
  c.requires.whole,
  c.requires.block.same,
  suc-mul c.args.rows c.args.width,
)

pub write_last-requires-clause-above : goal.write_last-requires-clause-above
write_last-requires-clause-above g c =
    (split g (goal.at.write_last-requires-clause-above g c).After-split_at_mut-marks_above).above_is

pub write_last-requires-clause-last : goal.write_last-requires-clause-last
write_last-requires-clause-last g c =
    (split g (goal.at.write_last-requires-clause-last g c).After-split_at_mut-marks_above).last_is

pub write_last-requires-clause-column_in : goal.write_last-requires-clause-column_in
write_last-requires-clause-column_in g c =
    let p = (goal.at.write_last-requires-clause-column_in g c).After-split_at_mut-marks_above in
    subst (λ n. c.args.column < n) (sym (split g p).ends.row_length) c.requires.column_in

pub write_last-requires-clause-row_in : goal.write_last-requires-clause-row_in
write_last-requires-clause-row_in g c =
    let p = (goal.at.write_last-requires-clause-row_in g c).After-split_at_mut-marks_above in
    row_within c.args.row c.args.rows c.args.width _ _ (split g p).ends.row_length (split g p).ends.rows_above
    c.requires.row_in

pub returns-clause-block : goal.returns-clause-block
returns-clause-block g c = block_join g.S.Exact.exact g.S.Exact.MAX _ _ _ _
    (split g (goal.at.returns-clause-block g c).After-split_at_mut-marks_above).above_is c.write_last.ensures.block

pub returns-clause-ok : goal.returns-clause-ok
returns-clause-ok g c =
    let e = g.S.Exact.exact in
    let ends = (split g (goal.at.returns-clause-ok g c).After-split_at_mut-marks_above).ends in
    last_changed e ends c.write_last.new.last
    (factor_row ordered_fractions (cell_of e c.args.width c.args.cells.now) c.args.column c.args.row)
    c.write_last.auto.last
    (λ j. c.write_last.ensures.ok j ∙ same_row e ends c.args.column c.args.row c.requires.row_in j)
