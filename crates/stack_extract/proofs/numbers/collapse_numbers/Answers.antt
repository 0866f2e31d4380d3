use Rattle.std.proofs.Common.{◌≡◌, ◌∙◌, ap, arith}
use Rattle.stack_rational.proofs.Common.{add, first, neg}
use Rattle.stack_extract.specs.WrittenLists.{collapse_number}
use Rattle.stack_extract.specs.Places.{shift_spot}
use Rattle.stack_extract.proofs.TableReads.{grown, whole}
use Rattle.stack_extract.proofs.WrittenPlaces.{told, shift_too_wide, shift_fits}
use Rattle.stack_extract.proofs.numbers.collapse_numbers.Goals as goal

pub bound_number-requires : goal.bound_number-requires
bound_number-requires g c = omega (arith, c.loop-row-test.true, c.rows-row-end.ensures)

pub loop-row-preserved : goal.loop-row-preserved
loop-row-preserved g c = (
  grown (collapse_number (g.L.LastTable.shape c.args.t.now) (g.L.LastTable.table c.args.t.now)) c.loop-row.row
      c.in-Ok.number c.loop-row.numbers.items _
      (c.in-Ok.ensures.ok ∙ (λ i. add (c.bound_number.ensures i) (neg (c.one.ensures i))))
      c.loop-row.invariant.0
      c.in_ok-numbers-in-Ok.ensures,
  shift_fits (g.L.LastTable.shape c.args.t.now)
      (g.L.LastTable.table c.args.t.now) c.loop-row.row c.bound_number.result c.one.result
      c.bound_number.ensures c.one.ensures c.in-Ok.ensures.fits c.loop-row.invariant.1,
)

pub returns-in-Err-clause-wide : goal.returns-in-Err-clause-wide
returns-in-Err-clause-wide g c = told c.too_wide.result _ _ c.too_wide.ensures
    (shift_too_wide (g.L.LastTable.shape c.args.t.now) (g.L.LastTable.table c.args.t.now) c.loop-row.row
    c.bound_number.result c.one.result
    (omega (arith, c.loop-row-test.true, c.rows-row-end.ensures)) c.bound_number.ensures
    c.one.ensures
    c.in-Err.ensures.wide c.loop-row.invariant.1)

pub returns-clause-ok : goal.returns-clause-ok
returns-clause-ok g c = whole (collapse_number (g.L.LastTable.shape c.args.t.now) (g.L.LastTable.table c.args.t.now))
    c.loop-row.row (g.L.LastTable.shape c.args.t.now).rows c.loop-row.numbers.items c.loop-row.invariant.0
    (omega (arith, c.loop-row-test.false, c.loop-row.auto, c.rows-row-end.ensures))

pub returns-clause-fits : goal.returns-clause-fits
returns-clause-fits g c =
    let at_end : (g.L.LastTable.shape c.args.t.now).rows ≡ c.loop-row.row =
    omega (arith, c.loop-row-test.false, c.loop-row.auto, c.rows-row-end.ensures) in
    ap (λ n. first n (shift_spot (g.L.LastTable.shape c.args.t.now) (g.L.LastTable.table c.args.t.now))) at_end
    ∙ c.loop-row.invariant.1
