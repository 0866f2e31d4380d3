use Rattle.std.proofs.Common.{◌≡◌, refl, sym, ap, ◌∙◌, ℕ, ◌<◌, ◌≤◌, length, set, true, arith}
use Rattle.stack_rational.proofs.Common.{dec_lt, Fraction, mul, inv, ordered_fractions, first_found, first_more}
use Rattle.stack_rational.proofs.Common.{is_too_wide, fraction_fits, is_zero, not-false}
use Rattle.stack_rational.specs.declared.exact.Op.TheVariants.{Quotient}
use Rattle.stack_table.specs.Block.{item_value}
use Rattle.stack_table.specs.Spots.{divided, divide_item, divide_spot}
use Rattle.stack_rational.proofs.Fitting.{is_zero-of}
use Rattle.stack_table.proofs.Blocks.{value_at-past, value_at-index, value_at-set_same, value_at-set_other, block_kept}
use Rattle.stack_table.proofs.Blocks.{written_done, written_rest}
use Rattle.stack_table.proofs.RowSteps.{quotient_zero, divide_skips, divide_too_wide, divide_goes}
use Rattle.stack_table.proofs.rows.divide_row.Goals as goal

pub loop-j-init : goal.loop-j-init
loop-j-init g c = record {
  block = λ marks h. h;
  done = λ k l. absurd (omega (arith, l));
  rest = λ k l. refl;
  none = refl;
}

pub returns-in-Err-clause-wide : goal.returns-in-Err-clause-wide
returns-in-Err-clause-wide g c =
    let e = g.S.Exact.exact in
    let m = g.S.Exact.MAX in
    let old = item_value e c.args.cells.now in
    let d = e c.args.divisor in
    let j = c.loop-j.j in
    let lt : j < length c.loop-j.cells = omega (arith, c.loop-j.auto.cells, c.loop-j-test.true) in
    let cell = sym (c.loop-j.invariant.rest j (omega arith))
    ∙ value_at-index e c.loop-j.cells j c.index-cells-j.result lt c.index-cells-j.is in
    first_found (length c.args.cells.now) j
    (divide_item ordered_fractions (is_too_wide m) old d c.args.row) _ c.loop-j-test.true
    c.loop-j.invariant.none
    (divide_too_wide m old d c.args.row j (ap (λ v. is_too_wide m Quotient v d) cell ∙ c.in-Err.ensures.wide))

pub loop-j-preserved : goal.loop-j-preserved
loop-j-preserved g c =
    let e = g.S.Exact.exact in
    let m = g.S.Exact.MAX in
    let old = item_value e c.args.cells.now in
    let d = e c.args.divisor in
    let j = c.loop-j.j in
    let i = c.loop-j.invariant in
    let x = c.index-cells-j.result in
    let y = c.in-Ok.cell in
    let lt : j < length c.loop-j.cells = omega (arith, c.loop-j.auto.cells, c.loop-j-test.true) in
    let cell = value_at-index e c.loop-j.cells j x lt c.index-cells-j.is in
    let first_cell = sym (i.rest j (omega arith)) ∙ cell in
    record {
      block = λ marks h. block_kept e m c.loop-j.cells marks j y lt (i.block marks h)
          ((i.block marks h).marked j ∙ ap is_zero cell
          ∙ sym (ap is_zero c.in-Ok.ensures.ok ∙ quotient_zero m g.met.S.Exact.max_law (e x) d c.requires.divisor))
          (ap (fraction_fits m) c.in-Ok.ensures.ok ∙ not-false _ c.in-Ok.ensures.fits);
      done = λ k l. written_done (divided ordered_fractions old d) old (item_value e c.loop-j.cells)
          (item_value e (set c.loop-j.cells j y)) j j i.done i.rest
          (λ k a b. absurd (omega (arith, a, b)))
          (value_at-set_same e c.loop-j.cells j y lt ∙ c.in-Ok.ensures.ok
          ∙ ap (mul (inv d)) (sym first_cell))
          (λ k n. value_at-set_other e c.loop-j.cells j k y n) k (omega (arith, l));
      rest = λ k l. written_rest old (item_value e c.loop-j.cells)
          (item_value e (set c.loop-j.cells j y)) j j i.rest (omega arith)
          (λ k n. value_at-set_other e c.loop-j.cells j k y n) k (omega (arith, l));
      none = first_more j (divide_item ordered_fractions (is_too_wide m) old d c.args.row) i.none
          (divide_goes m old d c.args.row j (ap (λ v. is_too_wide m Quotient v d) first_cell
          ∙ c.in-Ok.ensures.fits));
    }

pub returns-clause-ok : goal.returns-clause-ok
returns-clause-ok g c = λ j. go j (dec_lt j c.loop-j.j)
  where
    old : ℕ → Fraction
    old = item_value g.S.Exact.exact c.args.cells.now

    past : (j : ℕ) → c.loop-j.j ≤ j → is_zero (old j) ≡ true
    past j l = ap is_zero
        (value_at-past g.S.Exact.exact c.args.cells.now j (omega (arith, l, c.loop-j-test.false)))
        ∙ is_zero-of

    go : (j : ℕ) → Dec (j < c.loop-j.j) →
        item_value g.S.Exact.exact c.loop-j.cells j ≡ divided ordered_fractions old
        (g.S.Exact.exact c.args.divisor) j
    go j (yes l) = c.loop-j.invariant.done j l
    go j (no l) = c.loop-j.invariant.rest j (omega (arith, l))
        ∙ sym (divide_skips g.S.Exact.MAX old
        (g.S.Exact.exact c.args.divisor) c.args.row j g.met.S.Exact.max_law (past j (omega (arith, l)))).0

pub returns-clause-wide : goal.returns-clause-wide
returns-clause-wide g c =
    let e = g.S.Exact.exact in
    let end : c.loop-j.j ≡ length c.args.cells.now = omega (arith, c.loop-j-test.false, c.loop-j.auto.j-end) in
    ap (λ n. divide_spot ordered_fractions (is_too_wide g.S.Exact.MAX) n (item_value e c.args.cells.now)
    (e c.args.divisor) c.args.row) (sym end) ∙ c.loop-j.invariant.none

pub bounds-cells-j : goal.bounds-cells-j
bounds-cells-j g c = omega (arith, c.loop-j-test.true, c.loop-j.auto.cells)

pub bounds-cells-j-in-Ok : goal.bounds-cells-j-in-Ok
bounds-cells-j-in-Ok g c = omega (arith, c.loop-j-test.true, c.loop-j.auto.cells)

pub quotient-requires : goal.quotient-requires
quotient-requires g c = c.requires.divisor
