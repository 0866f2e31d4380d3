use Rattle.std.proofs.Common.{◌≡◌, sym, ap, subst, ◌∙◌, ℕ, ◌<◌, ◌≤◌, ◌+◌, ◌*◌, length, cond, eqb, arith, IfSome}
use Rattle.stack_rational.proofs.Common.{fraction_fits}
use Rattle.stack_rational.proofs.Fitting.{zero_fits}
use Rattle.stack_table.specs.Block.{item_value, cell_of}
use Rattle.stack_table.proofs.BlockRows.{part_block, part_value}
use Rattle.stack_table.proofs.objective.write_last.Goals as goal
use Rattle.stack_table.proofs.objective.write_last.Goals.{In-Some}

-- the row lies within the block
within : (g : _) (c : In-Some g) →
    c.in-Some.r * length c.args.last.now + length c.args.last.now ≤ length c.args.above.now
within g c = subst (λ o. IfSome o (λ r. r * length c.args.last.now + length c.args.last.now ≤ length c.args.above.now))
    c.in-Some.is c.requires.row_in

pub overflow_mul-from : goal.overflow_mul-from
overflow_mul-from g c = omega (arith, within g c)

pub overflow_add-end : goal.overflow_add-end
overflow_add-end g c = omega (arith, within g (goal.at.overflow_add-end g c).In-Some)

pub slice_bounds-copy_from_slice-end : goal.slice_bounds-copy_from_slice-end
slice_bounds-copy_from_slice-end g c =
    omega (arith, within g (goal.at.slice_bounds-copy_from_slice-end g c).In-Some)

pub slice_bounds-copy_from_slice-end-in-Some : goal.slice_bounds-copy_from_slice-end-in-Some
slice_bounds-copy_from_slice-end-in-Some g c = omega (
  arith,
  within g (goal.at.slice_bounds-copy_from_slice-end-in-Some g c).In-Some,
  c.requires.above.same,
)

pub copy_from_slice-requires : goal.copy_from_slice-requires
copy_from_slice-requires g c = omega (arith, within g (goal.at.copy_from_slice-requires g c).In-Some)

pub copy_from_slice-requires-in-Some : goal.copy_from_slice-requires-in-Some
copy_from_slice-requires-in-Some g c = omega (
  arith,
  within g (goal.at.copy_from_slice-requires-in-Some g c).In-Some,
  c.requires.above.same,
  c.requires.last.same,
)

pub set_cell-requires-clause-column_in : goal.set_cell-requires-clause-column_in
set_cell-requires-clause-column_in g c =
    subst (λ n. c.args.column < n) (sym c.copy_from_slice.ensures.len) c.requires.column_in

pub set_cell-requires-clause-fits : goal.set_cell-requires-clause-fits
set_cell-requires-clause-fits g c = ap (fraction_fits g.S.Exact.MAX) c.zero.ensures
    ∙ zero_fits g.S.Exact.MAX g.met.S.Exact.max_law

pub set_cell-requires-clause-block : goal.set_cell-requires-clause-block
set_cell-requires-clause-block g c =
    let p = (goal.at.set_cell-requires-clause-block g c).In-Some in
    rw (c.copy_from_slice.ensures.after, c.copy_from_slice-in-Some.ensures.after)
    (part_block g.S.Exact.exact g.S.Exact.MAX (length c.args.last.now) c.in-Some.r c.args.above.now
    c.args.marks_above.now c.requires.above (within g p))

pub clear_row-requires : goal.clear_row-requires
clear_row-requires g c = record { block = c.requires.last }

pub set_cell-requires-in-None-clause-column_in : goal.set_cell-requires-in-None-clause-column_in
set_cell-requires-in-None-clause-column_in g c =
    subst (λ n. c.args.column < n) (sym c.clear_row.auto.cells) c.requires.column_in

pub set_cell-requires-in-None-clause-fits : goal.set_cell-requires-in-None-clause-fits
set_cell-requires-in-None-clause-fits g c = c.minus_one.ensures.fits

pub set_cell-requires-in-None-clause-block : goal.set_cell-requires-in-None-clause-block
set_cell-requires-in-None-clause-block g c = c.clear_row.ensures.block

pub returns-in-Some-clause-block : goal.returns-in-Some-clause-block
returns-in-Some-clause-block g c = c.set_cell.ensures.block

pub returns-in-Some-clause-ok : goal.returns-in-Some-clause-ok
returns-in-Some-clause-ok g c =
    let e = g.S.Exact.exact in
    let w = length c.args.last.now in
    let r = c.in-Some.r in
    let p = (goal.at.returns-in-Some-clause-ok g c).In-Some in
    let copied : (j : ℕ) → item_value e c.copy_from_slice.new.self j ≡ cell_of e w c.args.above.now r j =
    λ j. ap (λ ys. item_value e ys j) c.copy_from_slice.ensures.after
    ∙ part_value e g.S.Exact.MAX w r c.args.above.now c.args.marks_above.now c.requires.above (within g p) j in
    rw c.in-Some.is (λ j. c.set_cell.ensures.ok j
    ∙ (λ z. cond (eqb j c.args.column) (c.zero.ensures z) (copied j z)))

pub returns-in-None-clause-block : goal.returns-in-None-clause-block
returns-in-None-clause-block g c = c.set_cell-in-None.ensures.block

pub returns-in-None-clause-ok : goal.returns-in-None-clause-ok
returns-in-None-clause-ok g c = rw c.in-None.is (λ j. c.set_cell-in-None.ensures.ok j
    ∙ (λ z. cond (eqb j c.args.column) (c.minus_one.ensures.value z) (c.clear_row.ensures.ok j z)))
