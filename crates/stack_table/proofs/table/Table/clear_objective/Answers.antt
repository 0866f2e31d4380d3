use Rattle.std.proofs.Common.{◌≡◌, sym, ap, ◌∙◌, ℕ, length, get_or, pos}
use Rattle.stack_rational.proofs.Common.{with_items_is, with_items, of, changed}
use Rattle.stack_table.specs.Block.{cell_of, shape_of}
use Rattle.stack_table.specs.Table.{width}
use Rattle.stack_table.proofs.table.Table.clear_objective.Goals as goal

pub returns-clause-ok : goal.returns-clause-ok
returns-clause-ok g c =
    let s = c.args.self.now in
    let e = g.S.Exact.exact in
    let w = width (shape_of s.rows s.contacts s.has_factor) in
    let q : s.row_length ≡ w = s.wide in
    let items : (with_items s.cells c.clear_last.new.cells).items ≡ c.clear_last.new.cells =
    with_items_is s.cells c.clear_last.new.cells
    (c.clear_last.auto.cells ∙ ap length c.as_mut_slice.ensures.value ∙ sym s.cells.ok.0) in
    let cells : (i j : ℕ) → cell_of e w (with_items s.cells c.clear_last.new.cells).items i j ≡ changed
    (cell_of e w s.cells.items) s.rows (λ _. of (pos 0)) i j
    = λ i j. ap (λ ys. cell_of e w ys i j) items ∙ sym (λ z. cell_of e (q z) c.clear_last.new.cells i j)
    ∙ c.clear_last.ensures.ok i j
    ∙ (λ z. changed (cell_of e (q z) (c.as_mut_slice.ensures.value z)) s.rows (λ _. of (pos 0)) i j) in
    λ z. record { cell = λ i j. cells i j z; basic = λ i. get_or s.basic.items i 0 }
