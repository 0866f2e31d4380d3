use Rattle.std.proofs.Common.{◌≡◌, refl, ap, subst, ◌∙◌, arith}
use Rattle.stack_rational.proofs.Common.{ordered_fractions, first, first_found, first_more, is_too_wide}
use Rattle.stack_table.specs.Table.{width}
use Rattle.stack_table.specs.Block.{Grows}
use Rattle.stack_table.specs.Lent.{problem_of}
use Rattle.stack_table.specs.WrittenTable.{first_row, number_place}
use Rattle.stack_table.proofs.Growing.{grown_more}
use Rattle.stack_table.proofs.building.push_row.Goals as goal

pub returns-in-Err-clause-wide : goal.returns-in-Err-clause-wide
returns-in-Err-clause-wide g c =
    let P = problem_of c.args.p.now in
    first_found (width P.shape) c.loop-j.j (number_place ordered_fractions (is_too_wide g.S.Exact.MAX) P c.args.i) _
    (omega (arith, c.loop-j-test.true, c.requires.artificial)) c.loop-j.invariant.none c.in-Err.ensures.wide

pub loop-j-preserved : goal.loop-j-preserved
loop-j-preserved g c =
    let m = g.S.Exact.MAX in
    let P = problem_of c.args.p.now in
    let i = c.args.i in
    let j = c.loop-j.j in
    record {
      block = c.in-Ok-push_cell.ensures.block;
      grown = grown_more g.S.Exact.exact m c.args.cells.now.items c.loop-j.cells.items
          c.push_cell.new.cells.items j _
          c.in-Ok.cell c.loop-j.invariant.grown c.in-Ok-push_cell.ensures.ok c.in-Ok.ensures.ok;
      none = first_more j (number_place ordered_fractions (is_too_wide m) P i) c.loop-j.invariant.none
          c.in-Ok.ensures.fits;
    }

pub returns-clause-fits : goal.returns-clause-fits
returns-clause-fits g c =
    let P = problem_of c.args.p.now in
    let end : width P.shape ≡ c.loop-j.j =
    omega (arith, c.loop-j-test.false, c.loop-j.auto.j-end, c.requires.artificial) in
    ap (λ n. first n (number_place ordered_fractions (is_too_wide g.S.Exact.MAX) P c.args.i)) end
    ∙ c.loop-j.invariant.none

pub loop-j-init : goal.loop-j-init
loop-j-init g c = record {
  block = c.requires.block;
  grown = record { longer = omega arith; kept = λ k l. refl; put = λ k l. absurd (omega (arith, l)) };
  none = refl;
}

pub first_cell-requires-clause-j_in : goal.first_cell-requires-clause-j_in
first_cell-requires-clause-j_in g c = omega (arith, c.loop-j-test.true, c.requires.artificial)

pub push_cell-requires-clause-fits : goal.push_cell-requires-clause-fits
push_cell-requires-clause-fits g c = c.in-Ok.ensures.small

pub returns-clause-grown : goal.returns-clause-grown
returns-clause-grown g c =
    let P = problem_of c.args.p.now in
    let end : c.loop-j.j ≡ width P.shape =
    omega (arith, c.loop-j-test.false, c.loop-j.auto.j-end, c.requires.artificial) in
    subst (λ n. Grows g.S.Exact.exact c.args.cells.now.items c.loop-j.cells.items n
    (first_row ordered_fractions P c.args.i)) end c.loop-j.invariant.grown
