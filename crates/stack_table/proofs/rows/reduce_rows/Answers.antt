use Rattle.std.proofs.Common.{◌≡◌, refl, sym, ap, subst, ◌∙◌, ℕ, ◌+◌, ◌*◌, ◌-◌, ◌<◌, length, take, drop, true}
use Rattle.std.proofs.Common.{arith}
use Rattle.stack_rational.proofs.Common.{err_from_is_err_and, ℕ_discrete, dec_lt, Fraction, ordered_fractions}
use Rattle.stack_rational.proofs.Common.{first_found, first_more, is_too_wide, is_zero}
use borrow.Rule.Slice.PartMut.{put_mid}
use Rattle.stack_table.specs.Block.{item_value, cell_of}
use Rattle.stack_table.specs.Spots.{reduced, reduce_spot, rows_spot}
use Rattle.stack_rational.proofs.Fitting.{is_zero-of}
use Rattle.stack_table.proofs.BlockRows.{row_in, cell_in, cell_outside, fits_cell, part_block, part_length, part_value}
use Rattle.stack_table.proofs.BlockRows.{put_block, put_own, put_other}
use Rattle.stack_table.proofs.RowSteps.{row_skips, row_none, reduce_same, reduced_same}
use Rattle.stack_table.proofs.rows.reduce_rows.Goals as goal
use Rattle.stack_table.proofs.rows.reduce_rows.Goals.{then-not-is_zero_at+in_ok-reduce_row, else-not-is_zero_at}

pub reduce_row-requires-clause-block : goal.reduce_row-requires-clause-block
reduce_row-requires-clause-block g c =
    part_block g.S.Exact.exact g.S.Exact.MAX
    (length c.args.pivot.now) c.loop-i.i c.loop-i.cells c.loop-i.marks c.loop-i.invariant.block
    (row_in c.loop-i.i c.args.count (length c.args.pivot.now) (length c.loop-i.cells) c.loop-i-test.true
    (c.loop-i.auto.cells ∙ c.requires.whole))

pub returns-in_err-reduce_row-clause-block : goal.returns-in_err-reduce_row-clause-block
returns-in_err-reduce_row-clause-block g c =
    put_block g.S.Exact.exact g.S.Exact.MAX (length c.args.pivot.now) c.loop-i.i c.loop-i.cells c.loop-i.marks
    c.loop-i.invariant.block
    (row_in c.loop-i.i c.args.count (length c.args.pivot.now) (length c.loop-i.cells) c.loop-i-test.true
    (c.loop-i.auto.cells ∙ c.requires.whole))
    c.reduce_row.new.cells c.reduce_row.new.marks c.in_err-reduce_row.ensures.block

pub returns-in_err-reduce_row-clause-wide : goal.returns-in_err-reduce_row-clause-wide
returns-in_err-reduce_row-clause-wide g c =
    let e = g.S.Exact.exact in
    let m = g.S.Exact.MAX in
    let w = length c.args.pivot.now in
    let i = c.loop-i.i in
    let old = cell_of e w c.args.cells.now in
    let room = row_in i c.args.count w (length c.loop-i.cells) c.loop-i-test.true
    (c.loop-i.auto.cells ∙ c.requires.whole) in
    let row : (j : ℕ) → old i j ≡ item_value e _ j =
    λ j. sym (part_value e m w i c.loop-i.cells c.loop-i.marks c.loop-i.invariant.block room j
    ∙ c.loop-i.invariant.rest i j (omega arith)) in
    let p = err_from_is_err_and c.from_residual.result c.from_residual.ensures.1 in
    rw (p.1, p.2) (first_found c.args.count i
    (λ k. reduce_spot ordered_fractions (is_too_wide m) w (old k) (item_value e c.args.pivot.now)
    (old k c.args.column) (c.args.first + k)) _
    c.loop-i-test.true c.loop-i.invariant.none
    (reduce_same m (c.args.first + i) _ _ _ _ _ _ _ _
    (sym (part_length e m w i c.loop-i.cells c.loop-i.marks c.loop-i.invariant.block room)) row
    (λ j. refl) (row c.args.column)
    ∙ c.in_err-reduce_row.ensures.wide))

pub loop-i-preserved : goal.loop-i-preserved
loop-i-preserved g c = elim c.if-not-is_zero_at.branch [
  | then-not-is_zero_at+in_ok-reduce_row w ↦
      let e = g.S.Exact.exact in
      let m = g.S.Exact.MAX in
      let n = length c.args.pivot.now in
      let i = c.loop-i.i in
      let old = cell_of e n c.args.cells.now in
      let piv = item_value e c.args.pivot.now in
      let room = row_in i c.args.count n (length c.loop-i.cells) c.loop-i-test.true
      (c.loop-i.auto.cells ∙ c.requires.whole) in
      let part = part_length e m n i c.loop-i.cells c.loop-i.marks c.loop-i.invariant.block room in
      let long : length w.reduce_row.new.cells ≡ n = w.reduce_row.auto.cells ∙ part in
      let lent : ℕ → Fraction = item_value e (take (i * n + n - i * n) (drop (i * n) c.loop-i.cells)) in
      let row : (j : ℕ) → old i j ≡ lent j =
      λ j. sym (part_value e m n i c.loop-i.cells c.loop-i.marks c.loop-i.invariant.block room j
      ∙ c.loop-i.invariant.rest i j (omega arith)) in
      rw (w.cells-is, w.marks-is) (record {
        block = put_block e m n i c.loop-i.cells c.loop-i.marks c.loop-i.invariant.block room
            w.reduce_row.new.cells w.reduce_row.new.marks w.in_ok-reduce_row.ensures.block;
        done = λ k j l. elim (ℕ_discrete k i) [
          | yes d ↦ ap (λ z. cell_of e n
              (put_mid (i * n) (i * n + n - i * n) c.loop-i.cells w.reduce_row.new.cells) z j) d
              ∙ put_own e m n i c.loop-i.cells c.loop-i.marks c.loop-i.invariant.block room
              w.reduce_row.new.cells j long
              ∙ w.in_ok-reduce_row.ensures.ok j
              ∙ reduced_same lent (old i) piv piv (lent c.args.column) (old i c.args.column) j
              (sym (row j)) refl (sym (row c.args.column))
              ∙ ap (λ z. reduced ordered_fractions (old z) piv (old z c.args.column) j) (sym d)
          | no d ↦ put_other e m n i c.loop-i.cells c.loop-i.marks c.loop-i.invariant.block room
              w.reduce_row.new.cells k j long d
              ∙ c.loop-i.invariant.done k j (omega (arith, l, d))
        ];
        rest = λ k j l. put_other e m n i c.loop-i.cells c.loop-i.marks c.loop-i.invariant.block room
            w.reduce_row.new.cells k j long (λ d. omega (arith, l, d))
            ∙ c.loop-i.invariant.rest k j (omega (arith, l));
        none = first_more i (λ k. reduce_spot ordered_fractions (is_too_wide m) n (old k) piv (old k c.args.column)
            (c.args.first + k)) c.loop-i.invariant.none
            (reduce_same m (c.args.first + i) _ _ _ _ _ _ _ _ (sym part) row (λ j. refl) (row c.args.column)
            ∙ w.in_ok-reduce_row.ensures.wide);
      })
  | else-not-is_zero_at w ↦
      let e = g.S.Exact.exact in
      let m = g.S.Exact.MAX in
      let n = length c.args.pivot.now in
      let i = c.loop-i.i in
      let old = cell_of e n c.args.cells.now in
      let piv = item_value e c.args.pivot.now in
      let room = row_in i c.args.count n (length c.loop-i.cells) c.loop-i-test.true
      (c.loop-i.auto.cells ∙ c.requires.whole) in
      let none : is_zero (old i c.args.column) ≡ true =
      ap is_zero (sym (c.loop-i.invariant.rest i c.args.column (omega arith))
      ∙ cell_in e n c.loop-i.cells i c.args.column c.requires.column_in)
      ∙ sym c.is_zero_at.ensures ∙ w.if-not-is_zero_at.false in
      let fit : (j : ℕ) → _ = λ j. fits_cell e m n c.args.cells.now c.args.marks.now i j c.requires.block in
      rw (w.cells-is, w.marks-is) (record {
        block = c.loop-i.invariant.block;
        done = λ k j l. elim (ℕ_discrete k i) [
          | yes d ↦ ap (λ z. cell_of e n c.loop-i.cells z j) d ∙ c.loop-i.invariant.rest i j (omega arith)
              ∙ sym (row_skips m (old i) piv (old i c.args.column) i j g.met.S.Exact.max_law (fit j) none).0
              ∙ ap (λ z. reduced ordered_fractions (old z) piv (old z c.args.column) j) (sym d)
          | no d ↦ c.loop-i.invariant.done k j (omega (arith, l, d))
        ];
        rest = λ k j l. c.loop-i.invariant.rest k j (omega (arith, l));
        none = first_more i (λ k. reduce_spot ordered_fractions (is_too_wide m) n (old k) piv (old k c.args.column)
            (c.args.first + k)) c.loop-i.invariant.none
            (row_none m n (old i) piv (old i c.args.column)
            (c.args.first + i) g.met.S.Exact.max_law fit none);
      })
]

pub returns-clause-ok : goal.returns-clause-ok
returns-clause-ok g c = λ i j. go i j (dec_lt i c.loop-i.i)
  where
    old : ℕ → ℕ → Fraction
    old = cell_of g.S.Exact.exact (length c.args.pivot.now) c.args.cells.now

    go : (i j : ℕ) → Dec (i < c.loop-i.i) →
        cell_of g.S.Exact.exact (length c.args.pivot.now) c.loop-i.cells i j
        ≡ reduced ordered_fractions (old i) (item_value g.S.Exact.exact c.args.pivot.now)
        (old i c.args.column) j
    go i j (yes l) = c.loop-i.invariant.done i j l
    go i j (no l) = c.loop-i.invariant.rest i j (omega (arith, l))
        ∙ sym (row_skips g.S.Exact.MAX (old i) (item_value g.S.Exact.exact c.args.pivot.now)
        (old i c.args.column) i j g.met.S.Exact.max_law
        (fits_cell g.S.Exact.exact g.S.Exact.MAX
        (length c.args.pivot.now) c.args.cells.now c.args.marks.now i j c.requires.block)
        (ap is_zero (cell_outside g.S.Exact.exact
        (length c.args.pivot.now) c.args.count c.args.cells.now i c.args.column c.requires.whole
        (omega (arith, l, c.loop-i-test.false))) ∙ is_zero-of)).0

pub overflow_mul-start : goal.overflow_mul-start
overflow_mul-start g c = omega (
  arith,
  row_in c.loop-i.i c.args.count (length c.args.pivot.now) (length c.loop-i.cells) c.loop-i-test.true
      (c.loop-i.auto.cells ∙ c.requires.whole),
)

pub overflow_add-at : goal.overflow_add-at
overflow_add-at g c = omega (
  arith,
  c.requires.column_in,
  row_in c.loop-i.i c.args.count (length c.args.pivot.now) (length c.loop-i.cells) c.loop-i-test.true
      (c.loop-i.auto.cells ∙ c.requires.whole),
)

pub is_zero_at-requires : goal.is_zero_at-requires
is_zero_at-requires g c = omega (
  arith,
  c.requires.column_in,
  row_in c.loop-i.i c.args.count (length c.args.pivot.now) (length c.loop-i.cells) c.loop-i-test.true
      (c.loop-i.auto.cells ∙ c.requires.whole),
)

pub overflow_add-end : goal.overflow_add-end
overflow_add-end g c = omega (
  arith,
  row_in c.loop-i.i c.args.count (length c.args.pivot.now) (length c.loop-i.cells) c.loop-i-test.true
      (c.loop-i.auto.cells ∙ c.requires.whole),
)

pub overflow_add-first : goal.overflow_add-first
overflow_add-first g c = omega (arith, c.requires.numbers, c.loop-i-test.true)

pub reduce_row-requires-clause-width : goal.reduce_row-requires-clause-width
reduce_row-requires-clause-width g c = sym (part_length g.S.Exact.exact g.S.Exact.MAX (length c.args.pivot.now)
    c.loop-i.i c.loop-i.cells c.loop-i.marks c.loop-i.invariant.block
    (row_in c.loop-i.i c.args.count (length c.args.pivot.now) (length c.loop-i.cells) c.loop-i-test.true
    (c.loop-i.auto.cells ∙ c.requires.whole)))

pub reduce_row-requires-clause-column_in : goal.reduce_row-requires-clause-column_in
reduce_row-requires-clause-column_in g c = subst (λ n. c.args.column < n)
    (sym (part_length g.S.Exact.exact g.S.Exact.MAX (length c.args.pivot.now)
    c.loop-i.i c.loop-i.cells c.loop-i.marks c.loop-i.invariant.block
    (row_in c.loop-i.i c.args.count (length c.args.pivot.now) (length c.loop-i.cells) c.loop-i-test.true
    (c.loop-i.auto.cells ∙ c.requires.whole)))) c.requires.column_in

pub returns-in_err-reduce_row-clause-ok : goal.returns-in_err-reduce_row-clause-ok
returns-in_err-reduce_row-clause-ok g c =
    rw ((err_from_is_err_and c.from_residual.result c.from_residual.ensures.1).1) tt

pub returns-clause-block : goal.returns-clause-block
returns-clause-block g c = c.loop-i.invariant.block

pub slice_bounds-reduce_row-end : goal.slice_bounds-reduce_row-end
slice_bounds-reduce_row-end g c = omega (
  arith,
  row_in c.loop-i.i c.args.count (length c.args.pivot.now) (length c.loop-i.cells) c.loop-i-test.true
      (c.loop-i.auto.cells ∙ c.requires.whole),
)

pub slice_bounds-reduce_row-end-then-not-is_zero_at : goal.slice_bounds-reduce_row-end-then-not-is_zero_at
slice_bounds-reduce_row-end-then-not-is_zero_at g c = omega (
  arith,
  c.loop-i.invariant.block.same,
  row_in c.loop-i.i c.args.count (length c.args.pivot.now) (length c.loop-i.cells) c.loop-i-test.true
      (c.loop-i.auto.cells ∙ c.requires.whole),
)

pub loop-i-init : goal.loop-i-init
loop-i-init g c = record {
  block = c.requires.block;
  done = λ k j l. absurd (omega (arith, l));
  rest = λ k j l. refl;
  none = refl;
}

pub returns-clause-wide : goal.returns-clause-wide
returns-clause-wide g c =
    let e = g.S.Exact.exact in
    let w = length c.args.pivot.now in
    let end : c.loop-i.i ≡ c.args.count = omega (arith, c.loop-i-test.false, c.loop-i.auto.i-end) in
    ap (λ n. rows_spot ordered_fractions (is_too_wide g.S.Exact.MAX) n w (cell_of e w c.args.cells.now)
    (item_value e c.args.pivot.now) c.args.column c.args.first) (sym end) ∙ c.loop-i.invariant.none

pub slice_bounds-reduce_row-count : goal.slice_bounds-reduce_row-count
slice_bounds-reduce_row-count g c = omega arith

pub slice_bounds-reduce_row-count-then-not-is_zero_at : goal.slice_bounds-reduce_row-count-then-not-is_zero_at
slice_bounds-reduce_row-count-then-not-is_zero_at g c = omega arith
