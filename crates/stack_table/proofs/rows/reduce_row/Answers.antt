use Rattle.std.proofs.Common.{◌≡◌, refl, sym, ap, ◌∙◌, ℕ, ◌<◌, ◌≤◌, length, set}
use Rattle.std.proofs.Common.{true, false, Option, arith}
use Rattle.stack_rational.proofs.Common.{dec_lt, Fraction, mul, ordered_fractions, first_found, first_more}
use Rattle.stack_rational.proofs.Common.{is_too_wide, fraction_fits, is_zero}
use Rattle.stack_rational.specs.declared.exact.Op.TheVariants.{Product, Difference}
use Rattle.stack_table.specs.declared.types.PivotWide.{PivotWide}
use Rattle.stack_table.specs.Block.{item_value}
use Rattle.stack_table.specs.Spots.{reduced, reduce_item, reduce_spot}
use Rattle.stack_rational.proofs.Fitting.{answer_fits, is_zero-of}
use Rattle.stack_table.proofs.Blocks.{value_at-past, value_at-index, value_at-set_same, value_at-set_other, block_set}
use Rattle.stack_table.proofs.Blocks.{written_done, written_rest}
use Rattle.stack_table.proofs.RowSteps.{column_skips, product_too_wide, difference_too_wide, neither_too_wide}
use Rattle.stack_table.proofs.RowSteps.{reduced_here}
use Rattle.stack_table.proofs.rows.reduce_row.Goals as goal
use Rattle.stack_table.proofs.rows.reduce_row.Goals.{After-index-pivot-j, After-index-cells-j}

-- the cells of the row as it was, and of the pivot row
module _ (g : _) (c : After-index-pivot-j g) where
  abbrev old : ℕ → Fraction
  old = item_value g.S.Exact.exact c.args.cells.now

  abbrev piv : ℕ → Fraction
  piv = item_value g.S.Exact.exact c.args.pivot.now

  abbrev item : ℕ → Option PivotWide
  item = reduce_item ordered_fractions (is_too_wide g.S.Exact.MAX) old piv (old c.args.column) c.args.row

  factor_is : old c.args.column ≡ g.S.Exact.exact c.index-cells-column.result
  factor_is = value_at-index g.S.Exact.exact c.args.cells.now c.args.column c.index-cells-column.result
      c.requires.column_in c.index-cells-column.is

  pivot_is : piv c.loop-j.j ≡ g.S.Exact.exact c.index-pivot-j.result
  pivot_is = value_at-index g.S.Exact.exact c.args.pivot.now c.loop-j.j c.index-pivot-j.result
      (omega (arith, c.loop-j-test.true, c.requires.width)) c.index-pivot-j.is

-- the cell in the next column, and the product that it loses
module _ (g : _) (c : After-index-cells-j g) where
  inside : c.loop-j.j < length c.loop-j.cells
  inside = omega (arith, c.loop-j-test.true, c.loop-j.auto.cells)

  cell_is : item_value g.S.Exact.exact c.args.cells.now c.loop-j.j ≡ g.S.Exact.exact c.index-cells-j.result
  cell_is = sym (c.loop-j.invariant.rest c.loop-j.j (omega arith))
      ∙ value_at-index g.S.Exact.exact c.loop-j.cells _ c.index-cells-j.result inside c.index-cells-j.is

  product_is : (k : Fraction) → k ≡ g.S.Exact.exact c.index-cells-column.result →
      g.S.Exact.exact c.in-Ok.product ≡ mul k (g.S.Exact.exact c.index-pivot-j.result)
  product_is k e = c.in-Ok.ensures.ok ∙ ap (λ z. mul z (g.S.Exact.exact c.index-pivot-j.result)) (sym e)

  product_fits : (k : Fraction) → k ≡ g.S.Exact.exact c.index-cells-column.result →
      is_too_wide g.S.Exact.MAX Product k (g.S.Exact.exact c.index-pivot-j.result) ≡ false
  product_fits k e = ap (λ z. is_too_wide g.S.Exact.MAX Product z (g.S.Exact.exact c.index-pivot-j.result)) e
      ∙ c.in-Ok.ensures.fits

pub loop-j-init : goal.loop-j-init
loop-j-init g c = record {
  block = c.requires.block;
  done = λ i l. absurd (omega (arith, l));
  rest = λ i l. refl;
  none = refl;
}

pub returns-in-Err-clause-wide : goal.returns-in-Err-clause-wide
returns-in-Err-clause-wide g c =
    let at = (goal.at.returns-in-Err-clause-wide g c).After-index-pivot-j in
    let j = c.loop-j.j in
    let y = g.S.Exact.exact c.index-pivot-j.result in
    let k = old g at c.args.column in
    first_found (length c.args.cells.now) j (item g at) _ c.loop-j-test.true c.loop-j.invariant.none
    (product_too_wide g.S.Exact.MAX (old g at) (piv g at) k c.args.row j (old g at j) y (mul k y)
    refl (pivot_is g at) (ap (λ z. is_too_wide g.S.Exact.MAX Product z y) (factor_is g at) ∙ c.in-Err.ensures.wide))

pub returns-in-Err-difference-clause-wide : goal.returns-in-Err-difference-clause-wide
returns-in-Err-difference-clause-wide g c =
    let places = goal.at.returns-in-Err-difference-clause-wide g c in
    let at = places.After-index-pivot-j in
    let here = places.After-index-cells-j in
    let k = old g at c.args.column in
    first_found (length c.args.cells.now) c.loop-j.j (item g at) _ c.loop-j-test.true c.loop-j.invariant.none
    (difference_too_wide g.S.Exact.MAX (old g at) (piv g at) k c.args.row c.loop-j.j
    (g.S.Exact.exact c.index-cells-j.result) (g.S.Exact.exact c.index-pivot-j.result)
    (g.S.Exact.exact c.in-Ok.product) (cell_is g here) (pivot_is g at)
    (product_fits g here k (factor_is g at)) (product_is g here k (factor_is g at))
    c.in-Err-difference.ensures.wide)

-- a column in which the pivot row has 0
pub loop-j-preserved-then-is_zero : goal.loop-j-preserved-then-is_zero
loop-j-preserved-then-is_zero g c =
    let at = (goal.at.loop-j-preserved-then-is_zero g c).After-index-pivot-j in
    let v = item_value g.S.Exact.exact c.loop-j.cells in
    let k = old g at c.args.column in
    let j = c.loop-j.j in
    let i = c.loop-j.invariant in
    let s = column_skips g.S.Exact.MAX (old g at) (piv g at) k c.args.row j g.met.S.Exact.max_law
    (c.requires.block.fitting j) (ap is_zero (pivot_is g at) ∙ sym c.is_zero.ensures ∙ c.if-is_zero.true) in
    record {
      block = i.block;
      done = λ n l. written_done (reduced ordered_fractions (old g at) (piv g at) k) (old g at) v v j j i.done i.rest
          (λ n a b. absurd (omega (arith, a, b))) (i.rest j (omega arith) ∙ sym s.0) (λ n d. refl) n (omega (arith, l));
      rest = λ n l. i.rest n (omega (arith, l));
      none = first_more j (item g at) i.none s.1;
    }

pub loop-j-preserved : goal.loop-j-preserved
loop-j-preserved g c =
    let places = goal.at.loop-j-preserved g c in
    let at = places.After-index-pivot-j in
    let here = places.After-index-cells-j in
    let e = g.S.Exact.exact in
    let m = g.S.Exact.MAX in
    let k = old g at c.args.column in
    let j = c.loop-j.j in
    let i = c.loop-j.invariant in
    let cell = c.in-Ok-difference.cell in
    record {
      block = block_set e m c.loop-j.cells c.loop-j.marks j cell c.is_zero-in-Ok-difference.result (inside g here)
          i.block c.is_zero-in-Ok-difference.ensures (ap (fraction_fits m) c.in-Ok-difference.ensures.ok
          ∙ answer_fits m Difference (e c.index-cells-j.result) (e c.in-Ok.product)
          (ap (fraction_fits m) (sym (cell_is g here)) ∙ c.requires.block.fitting j) c.in-Ok-difference.ensures.fits);
      done = λ n l. written_done (reduced ordered_fractions (old g at) (piv g at) k) (old g at)
          (item_value e c.loop-j.cells) (item_value e (set c.loop-j.cells j cell)) j j
          i.done i.rest (λ n a b. absurd (omega (arith, a, b)))
          (value_at-set_same e c.loop-j.cells j cell (inside g here)
          ∙ reduced_here m (old g at) (piv g at) k c.args.row j (e c.index-cells-j.result) (e c.index-pivot-j.result)
          (e c.in-Ok.product) (cell_is g here) (pivot_is g at) (e cell) (product_is g here k (factor_is g at))
          c.in-Ok-difference.ensures.ok)
          (λ n d. value_at-set_other e c.loop-j.cells j n cell d) n (omega (arith, l));
      rest = λ n l. written_rest (old g at) (item_value e c.loop-j.cells) (item_value e (set c.loop-j.cells j cell))
          j j i.rest (omega arith) (λ n d. value_at-set_other e c.loop-j.cells j n cell d) n (omega (arith, l));
      none = first_more j (item g at) i.none
          (neither_too_wide m (old g at) (piv g at) k c.args.row j (e c.index-cells-j.result)
          (e c.index-pivot-j.result) (e c.in-Ok.product) (cell_is g here) (pivot_is g at)
          (product_fits g here k (factor_is g at)) (product_is g here k (factor_is g at))
          c.in-Ok-difference.ensures.fits);
    }

pub returns-clause-ok : goal.returns-clause-ok
returns-clause-ok g c = λ i. go i (dec_lt i c.loop-j.j)
  where
    old : ℕ → Fraction
    old = item_value g.S.Exact.exact c.args.cells.now

    piv : ℕ → Fraction
    piv = item_value g.S.Exact.exact c.args.pivot.now

    k : Fraction
    k = old c.args.column

    zero : (i : ℕ) → c.loop-j.j ≤ i → is_zero (piv i) ≡ true
    zero i l = ap is_zero (value_at-past g.S.Exact.exact c.args.pivot.now i
        (omega (arith, l, c.loop-j-test.false, c.requires.width))) ∙ is_zero-of

    go : (i : ℕ) → Dec (i < c.loop-j.j) →
        item_value g.S.Exact.exact c.loop-j.cells i ≡ reduced ordered_fractions old piv k i
    go i (yes l) = c.loop-j.invariant.done i l
    go i (no l) = c.loop-j.invariant.rest i (omega (arith, l))
        ∙ sym (column_skips g.S.Exact.MAX old piv k c.args.row i g.met.S.Exact.max_law
        (c.requires.block.fitting i) (zero i (omega (arith, l)))).0

pub returns-clause-wide : goal.returns-clause-wide
returns-clause-wide g c =
    let e = g.S.Exact.exact in
    let end : c.loop-j.j ≡ length c.args.cells.now = omega (arith, c.loop-j-test.false, c.loop-j.auto.j-end) in
    ap (λ n. reduce_spot ordered_fractions (is_too_wide g.S.Exact.MAX) n (item_value e c.args.cells.now)
    (item_value e c.args.pivot.now) (item_value e c.args.cells.now c.args.column) c.args.row) (sym end)
    ∙ c.loop-j.invariant.none

pub bounds-pivot-j : goal.bounds-pivot-j
bounds-pivot-j g c = omega (arith, c.loop-j-test.true, c.requires.width)

pub bounds-cells-j : goal.bounds-cells-j
bounds-cells-j g c = omega (arith, c.loop-j-test.true, c.loop-j.auto.cells)

pub bounds-cells-j-in-Ok-difference : goal.bounds-cells-j-in-Ok-difference
bounds-cells-j-in-Ok-difference g c = omega (arith, c.loop-j-test.true, c.loop-j.auto.cells)

pub bounds-marks-j : goal.bounds-marks-j
bounds-marks-j g c = omega (arith, c.loop-j-test.true, c.loop-j.auto.cells, c.loop-j.invariant.block.same)

pub returns-in-Err-clause-block : goal.returns-in-Err-clause-block
returns-in-Err-clause-block g c = c.loop-j.invariant.block

pub returns-in-Err-clause-ok : goal.returns-in-Err-clause-ok
returns-in-Err-clause-ok g c = tt

pub returns-in-Err-difference-clause-block : goal.returns-in-Err-difference-clause-block
returns-in-Err-difference-clause-block g c = c.loop-j.invariant.block

pub returns-in-Err-difference-clause-ok : goal.returns-in-Err-difference-clause-ok
returns-in-Err-difference-clause-ok g c = tt

pub returns-clause-block : goal.returns-clause-block
returns-clause-block g c = c.loop-j.invariant.block

pub bounds-cells-column : goal.bounds-cells-column
bounds-cells-column g c = c.requires.column_in
