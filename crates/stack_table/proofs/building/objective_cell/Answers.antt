use Rattle.std.proofs.Common.{◌≡◌, sym, ap, ◌∙◌, ◌+◌, false, cond, None, arith}
use Rattle.stack_rational.proofs.Common.{err_from_is_err_and, ordered_fractions, first, fraction_fits, is_too_wide}
use Rattle.stack_rational.proofs.Fitting.{zero_fits}
use Rattle.stack_table.specs.declared.problem.BuildError.TheVariants.{Wide}
use Rattle.stack_table.specs.Table.{width}
use Rattle.stack_table.specs.Block.{cell_of}
use Rattle.stack_table.specs.Lent.{shape_of_problem}
use Rattle.stack_table.specs.WrittenTable.{is_artificial, partial_place}
use Rattle.stack_table.proofs.building.objective_cell.Goals as goal

pub returns-in_err-cell-clause-wide : goal.returns-in_err-cell-clause-wide
returns-in_err-cell-clause-wide g c =
    let a = c.args in
    let S = shape_of_problem a.p.now in
    let w : width S ≡ a.artificial + a.p.now.rows + 1 = omega (arith, c.requires.artificial) in
    let plain : is_artificial S a.column ≡ false = sym c.is_artificial.ensures ∙ c.if-is_artificial.false in
    let p = err_from_is_err_and c.from_residual.result c.from_residual.ensures.1 in
    rw p.1 ((λ z. cond (plain z) None (first a.p.now.rows (partial_place ordered_fractions
    (is_too_wide g.S.Exact.MAX) (Wide a.p.now.rows a.column)
    (λ i. cell_of g.S.Exact.exact (w z) a.cells.now i a.column))))
    ∙ c.in_err-cell.ensures.wide)

pub returns-clause-none : goal.returns-clause-none
returns-clause-none g c =
    let a = c.args in
    let S = shape_of_problem a.p.now in
    let w : width S ≡ a.artificial + a.p.now.rows + 1 = omega (arith, c.requires.artificial) in
    let plain : is_artificial S a.column ≡ false = sym c.is_artificial.ensures ∙ c.if-is_artificial.false in
    (λ z. cond (plain z) None (first a.p.now.rows (partial_place ordered_fractions
    (is_too_wide g.S.Exact.MAX) (Wide a.p.now.rows a.column)
    (λ i. cell_of g.S.Exact.exact (w z) a.cells.now i a.column))))
    ∙ c.in_ok-cell.ensures.none

pub returns-then-is_artificial-clause-fits : goal.returns-then-is_artificial-clause-fits
returns-then-is_artificial-clause-fits g c = ap (fraction_fits g.S.Exact.MAX) c.zero.ensures
    ∙ zero_fits g.S.Exact.MAX g.met.S.Exact.max_law
