use Rattle.std.proofs.Common.{◌≡◌, sym, ap, ◌∙◌, ℕ, ◌<◌, arith}
use Rattle.stack_rational.proofs.Common.{Fraction, ordered_fractions, first_found, first_more, first, is_too_wide}
use Rattle.stack_table.specs.Table.{width}
use Rattle.stack_table.specs.Block.{cell_of}
use Rattle.stack_table.specs.Lent.{shape_of_problem}
use Rattle.stack_table.specs.WrittenTable.{objective_place}
use Rattle.stack_table.proofs.Growing.{grown_more, earlier_cells}
use Rattle.stack_table.proofs.FirstObjective.{objective_same, place_same}
use Rattle.stack_table.proofs.building.push_objective.Goals as goal

pub returns-in-Err-clause-wide : goal.returns-in-Err-clause-wide
returns-in-Err-clause-wide g c =
    let e = g.S.Exact.exact in
    let m = g.S.Exact.MAX in
    let S = shape_of_problem c.args.p.now in
    let w = width S in
    let j = c.loop-j.j in
    let old : ℕ → ℕ → Fraction = cell_of e w c.args.cells.now.items in
    let same : (i : ℕ) → i < S.rows → cell_of e w c.as_slice.result.now i j ≡ old i j
    = λ i l. ap (λ ys. cell_of e w ys i j) c.as_slice.ensures.value
    ∙ earlier_cells e w S.rows j _ c.args.cells.now.items c.loop-j.cells.items c.requires.long
    c.loop-j.invariant.grown i j l in
    first_found w j (objective_place ordered_fractions (is_too_wide m) S old) _
    (omega (arith, c.loop-j-test.true, c.requires.artificial))
    c.loop-j.invariant.none
    (sym (place_same S j (cell_of e w c.as_slice.result.now) old same m) ∙ c.in-Err.ensures.wide)

pub loop-j-preserved : goal.loop-j-preserved
loop-j-preserved g c =
    let e = g.S.Exact.exact in
    let m = g.S.Exact.MAX in
    let S = shape_of_problem c.args.p.now in
    let w = width S in
    let i = c.loop-j.invariant in
    let j = c.loop-j.j in
    let old : ℕ → ℕ → Fraction = cell_of e w c.args.cells.now.items in
    let same : (i : ℕ) → i < S.rows → cell_of e w c.as_slice.result.now i j ≡ old i j
    = λ i l. ap (λ ys. cell_of e w ys i j) c.as_slice.ensures.value
    ∙ earlier_cells e w S.rows j _ c.args.cells.now.items c.loop-j.cells.items c.requires.long
    c.loop-j.invariant.grown i j l in
    record {
      block = c.in-Ok-push_cell.ensures.block;
      grown = grown_more e m c.args.cells.now.items c.loop-j.cells.items c.push_cell.new.cells.items j _
          c.in-Ok.cell i.grown
          c.in-Ok-push_cell.ensures.ok
          (c.in-Ok.ensures.ok ∙ objective_same S j (cell_of e w c.as_slice.result.now) old same);
      none = first_more j (objective_place ordered_fractions (is_too_wide m) S old) i.none
          (sym (place_same S j (cell_of e w c.as_slice.result.now) old same m) ∙ c.in-Ok.ensures.none);
    }

pub returns-clause-fits : goal.returns-clause-fits
returns-clause-fits g c =
    let S = shape_of_problem c.args.p.now in
    let end : width S ≡ c.loop-j.j =
    omega (arith, c.loop-j-test.false, c.loop-j.auto.j-end, c.requires.artificial) in
    ap (λ n. first n (objective_place ordered_fractions (is_too_wide g.S.Exact.MAX) S
    (cell_of g.S.Exact.exact (width S) c.args.cells.now.items))) end ∙ c.loop-j.invariant.none
