use Rattle.std.proofs.Common.{◌≡◌, refl, sym, ap, ◌∙◌, ℕ, ◌+◌, ◌*◌, add-one, arith}
use Rattle.stack_rational.proofs.Common.{err_from_is_err_and, Fraction, add, neg, ordered_fractions, only_if}
use Rattle.stack_rational.proofs.Common.{first, first_found, first_more, fraction_fits, is_too_wide}
use Rattle.stack_rational.specs.declared.exact.Op.TheVariants.{Difference}
use Rattle.stack_table.specs.declared.problem.BuildError.TheVariants.{Wide}
use Rattle.stack_table.specs.Block.{cell_of}
use Rattle.stack_table.specs.WrittenTable.{less_all, partial_place}
use Rattle.stack_rational.proofs.Fitting.{answer_fits, zero_fits}
use Rattle.stack_table.proofs.BlockRows.{row_in, cell_in}
use Rattle.stack_table.proofs.Blocks.{value_at-index}
use Rattle.stack_table.proofs.building.less_column.Goals as goal
use Rattle.stack_table.proofs.building.less_column.Goals.{After-index-cells-i}

-- the cell that is read
value_is : (g : _) (c : After-index-cells-i g) →
    cell_of g.S.Exact.exact c.args.width c.args.cells.now c.loop-i.i c.args.column
    ≡ g.S.Exact.exact c.index-cells-i.result
value_is g c = cell_in g.S.Exact.exact c.args.width c.args.cells.now c.loop-i.i c.args.column c.requires.column_in
    ∙ value_at-index g.S.Exact.exact c.args.cells.now (c.loop-i.i * c.args.width + c.args.column) c.index-cells-i.result
    (omega (
      arith,
      row_in c.loop-i.i c.args.rows c.args.width (c.args.rows * c.args.width) c.loop-i-test.true refl,
      c.requires.room,
      c.requires.column_in,
    )) c.index-cells-i.is

pub loop-i-init : goal.loop-i-init
loop-i-init g c = record {
  value = c.zero-sum.ensures;
  fitting = ap (fraction_fits g.S.Exact.MAX) c.zero-sum.ensures ∙ zero_fits g.S.Exact.MAX g.met.S.Exact.max_law;
  none = refl;
}

pub returns-in_err-sum-clause-wide : goal.returns-in_err-sum-clause-wide
returns-in_err-sum-clause-wide g c =
    let a = c.args in
    let m = g.S.Exact.MAX in
    let f : ℕ → Fraction = λ i. cell_of g.S.Exact.exact a.width a.cells.now i a.column in
    let x = value_is g (goal.at.returns-in_err-sum-clause-wide g c).After-index-cells-i in
    let p = err_from_is_err_and c.from_residual.result c.from_residual.ensures.1 in
    rw p.1 (first_found a.rows c.loop-i.i
    (partial_place ordered_fractions (is_too_wide m) (Wide a.rows a.column) f) _
    c.loop-i-test.true c.loop-i.invariant.none (ap (λ b. only_if b (Wide a.rows a.column))
    ((λ z. is_too_wide m Difference (sym c.loop-i.invariant.value z) (x z)) ∙ c.in_err-sum.ensures.wide)))

pub loop-i-preserved : goal.loop-i-preserved
loop-i-preserved g c =
    let a = c.args in
    let e = g.S.Exact.exact in
    let m = g.S.Exact.MAX in
    let f : ℕ → Fraction = λ i. cell_of e a.width a.cells.now i a.column in
    let x = value_is g (goal.at.loop-i-preserved g c).After-index-cells-i in
    record {
      value = c.in_ok-sum.ensures.ok ∙ (λ z. add (c.loop-i.invariant.value z) (neg (sym x z)))
          ∙ sym (ap (λ n. less_all ordered_fractions n f) (add-one c.loop-i.i));
      fitting = ap (fraction_fits m) c.in_ok-sum.ensures.ok
          ∙ answer_fits m Difference (e c.loop-i.sum) (e c.index-cells-i.result) c.loop-i.invariant.fitting
          c.in_ok-sum.ensures.fits;
      none = first_more c.loop-i.i (partial_place ordered_fractions (is_too_wide m) (Wide a.rows a.column) f)
          c.loop-i.invariant.none (ap (λ b. only_if b (Wide a.rows a.column))
          ((λ z. is_too_wide m Difference (sym c.loop-i.invariant.value z) (x z)) ∙ c.in_ok-sum.ensures.fits));
    }

pub overflow_mul-i : goal.overflow_mul-i
overflow_mul-i g c = omega (
  arith,
  row_in c.loop-i.i c.args.rows c.args.width (c.args.rows * c.args.width) c.loop-i-test.true refl,
  c.requires.room,
  c.requires.column_in,
)

pub overflow_add-i : goal.overflow_add-i
overflow_add-i g c = omega (
  arith,
  row_in c.loop-i.i c.args.rows c.args.width (c.args.rows * c.args.width) c.loop-i-test.true refl,
  c.requires.room,
  c.requires.column_in,
)

pub bounds-cells-i : goal.bounds-cells-i
bounds-cells-i g c = omega (
  arith,
  row_in c.loop-i.i c.args.rows c.args.width (c.args.rows * c.args.width) c.loop-i-test.true refl,
  c.requires.room,
  c.requires.column_in,
)

pub returns-clause-none : goal.returns-clause-none
returns-clause-none g c =
    let a = c.args in
    let end : c.loop-i.i ≡ a.rows = omega (arith, c.loop-i-test.false, c.loop-i.auto.i-end) in
    ap (λ n. first n (partial_place ordered_fractions (is_too_wide g.S.Exact.MAX) (Wide a.rows a.column)
    (λ i. cell_of g.S.Exact.exact a.width a.cells.now i a.column))) (sym end) ∙ c.loop-i.invariant.none
