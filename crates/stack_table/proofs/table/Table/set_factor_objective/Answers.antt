use Rattle.std.proofs.Common.{◌≡◌, sym, ap, ◌∙◌, ℕ, ◌<◌, Bool, Option, Some, None, length, get_or, IfSome, eqb}
use Rattle.stack_rational.proofs.Common.{with_items_is, with_items, changed, ordered_fractions, least, least-some}
use Rattle.stack_table.specs.Block.{cell_of, shape_of, tabled}
use Rattle.stack_table.specs.Table.{width, factor_row}
use Rattle.stack_table.proofs.table.Table.set_factor_objective.Goals as goal

found_below : (n : ℕ) (p : ℕ → Bool) (o : Option ℕ) → o ≡ least n p → IfSome o (λ r. r < n)
found_below n p None e = tt
found_below n p (Some r) e = (least-some n p r (sym e)).below

pub set_last-requires-clause-row_in : goal.set_last-requires-clause-row_in
set_last-requires-clause-row_in g c =
    let s = c.args.self.now in
    found_below s.rows (λ r. eqb (get_or s.basic.items r 0) s.contacts) c.row_with-row.result
    (c.row_with-row.ensures
    ∙ (λ z. least ((ap length c.as_slice.ensures.value ∙ s.basics) z)
    (λ r. eqb (get_or (c.as_slice.ensures.value z) r 0) s.contacts)))

pub returns-clause-ok : goal.returns-clause-ok
returns-clause-ok g c =
    let s = c.args.self.now in
    let e = g.S.Exact.exact in
    let S = shape_of s.rows s.contacts s.has_factor in
    let w = width S in
    let q : s.row_length ≡ w = s.wide in
    let T = tabled e S s.cells.items s.basic.items in
    let row = c.row_with-row.ensures
    ∙ (λ z. least ((ap length c.as_slice.ensures.value ∙ s.basics) z)
    (λ r. eqb (get_or (c.as_slice.ensures.value z) r 0) s.contacts)) in
    let items : (with_items s.cells c.set_last.new.cells).items ≡ c.set_last.new.cells =
    with_items_is s.cells c.set_last.new.cells
    (c.set_last.auto.cells ∙ ap length c.as_mut_slice.ensures.value ∙ sym s.cells.ok.0) in
    let cells : (i j : ℕ) → cell_of e w (with_items s.cells c.set_last.new.cells).items i j
    ≡ changed T.cell s.rows
    (factor_row ordered_fractions T.cell s.contacts
    (least s.rows (λ r. eqb (get_or s.basic.items r 0) s.contacts))) i j
    = λ i j. ap (λ ys. cell_of e w ys i j) items ∙ sym (λ z. cell_of e (q z) c.set_last.new.cells i j)
    ∙ c.set_last.ensures.ok i j
    ∙ (λ z. changed (cell_of e (q z) (c.as_mut_slice.ensures.value z)) s.rows
    (factor_row ordered_fractions (cell_of e (q z) (c.as_mut_slice.ensures.value z)) s.contacts (row z)) i j)
    in
    λ z. record { cell = λ i j. cells i j z; basic = λ i. get_or s.basic.items i 0 }
