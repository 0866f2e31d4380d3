use Rattle.std.proofs.Common.{◌≡◌, refl, sym, ap, ◌∙◌, ℕ, suc, Bool, List, length, get_or, set, arith}
use Rattle.std.proofs.Common.{subst₂, length-set}
use Rattle.stack_rational.proofs.Common.{with_items_is, err_from_is_err_and, with_items, changed, next}
use Rattle.stack_rational.proofs.Common.{ordered_fractions, is_too_wide}
use Rattle.stack_table.specs.Block.{IsBlock, cell_of, shape_of}
use Rattle.stack_table.specs.Table.{width, columns}
use Rattle.stack_table.specs.Spots.{cells_spot}
use Rattle.stack_table.proofs.Basics.{basic_changed, basic_below}
use Rattle.stack_table.proofs.table.Table.pivot.Goals as goal

pub invariant_of-self-2-clause-whole : goal.invariant_of-self-2-clause-whole
invariant_of-self-2-clause-whole g c =
    let s = c.args.self.now in
    let cells = c.pivot_block.auto.cells ∙ ap length c.as_mut_slice.ensures.value in
    ap length (with_items_is s.cells c.pivot_block.new.cells (cells ∙ sym s.cells.ok.0)) ∙ cells ∙ s.whole

pub invariant_of-self-2-clause-block : goal.invariant_of-self-2-clause-block
invariant_of-self-2-clause-block g c =
    let s = c.args.self.now in
    let cells = c.pivot_block.auto.cells ∙ ap length c.as_mut_slice.ensures.value in
    let marks = c.pivot_block.auto.marks ∙ ap length c.as_mut_slice-2.ensures.value in
    subst₂ (λ (xs : List g.row.S.Denot) (ms : List Bool). IsBlock g.S.Exact.MAX g.S.Exact.exact xs ms)
    (sym (with_items_is s.cells c.pivot_block.new.cells (cells ∙ sym s.cells.ok.0)))
    (sym (with_items_is s.marks c.pivot_block.new.marks (marks ∙ sym s.marks.ok.0)))
    c.pivot_block.ensures.block

pub invariant_of-self-2-clause-basics : goal.invariant_of-self-2-clause-basics
invariant_of-self-2-clause-basics g c = length-set c.args.self.now.basic.items c.args.row c.args.column
    ∙ c.args.self.now.basics

pub invariant_of-self-2-clause-basics_in : goal.invariant_of-self-2-clause-basics_in
invariant_of-self-2-clause-basics_in g c =
    let s = c.args.self.now in
    basic_below s.basic.items c.args.row c.args.column s.rows
    (columns (shape_of s.rows s.contacts s.has_factor))
    (omega (arith, s.basics, c.requires.row_in)) c.requires.column_in s.basics_in

pub returns-in_err-pivot_block-clause-wide : goal.returns-in_err-pivot_block-clause-wide
returns-in_err-pivot_block-clause-wide g c =
    let s = c.args.self.now in
    let p = err_from_is_err_and c.from_residual.result c.from_residual.ensures.1 in
    rw (p.1, p.2) (sym (λ z. cells_spot ordered_fractions (is_too_wide g.S.Exact.MAX) (suc s.rows) (s.wide z)
    (cell_of g.S.Exact.exact (s.wide z) (c.as_mut_slice.ensures.value z)) c.args.row c.args.column)
    ∙ c.in_err-pivot_block.ensures.wide)

pub returns-clause-wide : goal.returns-clause-wide
returns-clause-wide g c =
    let s = c.args.self.now in
    sym (λ z. cells_spot ordered_fractions (is_too_wide g.S.Exact.MAX) (suc s.rows) (s.wide z)
    (cell_of g.S.Exact.exact (s.wide z) (c.as_mut_slice.ensures.value z)) c.args.row c.args.column)
    ∙ c.in_ok-pivot_block.ensures.wide

pub returns-clause-ok : goal.returns-clause-ok
returns-clause-ok g c =
    let s = c.args.self.now in
    let e = g.S.Exact.exact in
    let w = width (shape_of s.rows s.contacts s.has_factor) in
    let items : (with_items s.cells c.pivot_block.new.cells).items ≡ c.pivot_block.new.cells =
    with_items_is s.cells c.pivot_block.new.cells
    (c.pivot_block.auto.cells ∙ ap length c.as_mut_slice.ensures.value ∙ sym s.cells.ok.0) in
    let cells : (i j : ℕ) →
    cell_of e w (with_items s.cells c.pivot_block.new.cells).items i j ≡ next ordered_fractions
    (cell_of e w s.cells.items) c.args.row c.args.column i j
    = λ i j. ap (λ ys. cell_of e w ys i j) items ∙ sym (λ z. cell_of e (s.wide z) c.pivot_block.new.cells i j)
    ∙ c.in_ok-pivot_block.ensures.ok i j
    ∙ (λ z. next ordered_fractions (cell_of e (s.wide z) (c.as_mut_slice.ensures.value z)) c.args.row c.args.column
    i j) in
    let basics : (i : ℕ) →
    get_or (set s.basic.items c.args.row c.args.column) i 0 ≡ changed
    (λ k. get_or s.basic.items k 0) c.args.row c.args.column i
    = λ i. basic_changed s.basic.items c.args.row c.args.column i
    (omega (arith, s.basics, c.requires.row_in)) in
    λ z. record { cell = λ i j. cells i j z; basic = λ i. basics i z }

pub pivot_block-requires-clause-whole : goal.pivot_block-requires-clause-whole
pivot_block-requires-clause-whole g c = ap length c.as_mut_slice.ensures.value ∙ c.args.self.now.whole

pub pivot_block-requires-clause-row_in : goal.pivot_block-requires-clause-row_in
pivot_block-requires-clause-row_in g c = c.requires.row_in

pub pivot_block-requires-clause-column_in : goal.pivot_block-requires-clause-column_in
pivot_block-requires-clause-column_in g c = omega (arith, c.args.self.now.wide, c.requires.column_in)

pub pivot_block-requires-clause-block : goal.pivot_block-requires-clause-block
pivot_block-requires-clause-block g c = subst₂
    (λ (xs : List g.row.S.Denot) (ms : List Bool). IsBlock g.S.Exact.MAX g.S.Exact.exact xs ms)
    (sym c.as_mut_slice.ensures.value) (sym c.as_mut_slice-2.ensures.value) c.args.self.now.block

pub pivot_block-requires-clause-cell : goal.pivot_block-requires-clause-cell
pivot_block-requires-clause-cell g c =
    let s = c.args.self.now in
    λ h. c.requires.cell (sym (λ z. (cell_of g.S.Exact.exact (s.wide z) (c.as_mut_slice.ensures.value z) c.args.row
    c.args.column).num) ∙ h)

pub invariant_of-self-2-clause-wide : goal.invariant_of-self-2-clause-wide
invariant_of-self-2-clause-wide g c = c.args.self.now.wide

pub invariant_of-self-2-clause-flips : goal.invariant_of-self-2-clause-flips
invariant_of-self-2-clause-flips g c = c.args.self.now.flips

pub invariant_of-self : goal.invariant_of-self
invariant_of-self g c =
    let s = c.args.self.now in
    let cells = c.pivot_block.auto.cells ∙ ap length c.as_mut_slice.ensures.value in
    let marks = c.pivot_block.auto.marks ∙ ap length c.as_mut_slice-2.ensures.value in
    let cells_are = with_items_is s.cells c.pivot_block.new.cells (cells ∙ sym s.cells.ok.0) in
    let marks_are = with_items_is s.marks c.pivot_block.new.marks (marks ∙ sym s.marks.ok.0) in
    record {
      wide = s.wide;
      whole = ap length cells_are ∙ cells ∙ s.whole;
      block = subst₂ (λ (xs : List g.row.S.Denot) (ms : List Bool). IsBlock g.S.Exact.MAX g.S.Exact.exact xs ms)
          (sym cells_are) (sym marks_are) c.pivot_block.ensures.block;
      basics = s.basics;
      basics_in = s.basics_in;
      flips = s.flips;
    }

pub returns-in_err-pivot_block-clause-shape : goal.returns-in_err-pivot_block-clause-shape
returns-in_err-pivot_block-clause-shape g c =
    rw ((err_from_is_err_and c.from_residual.result c.from_residual.ensures.1).1) tt

pub returns-in_err-pivot_block-clause-flips : goal.returns-in_err-pivot_block-clause-flips
returns-in_err-pivot_block-clause-flips g c =
    rw ((err_from_is_err_and c.from_residual.result c.from_residual.ensures.1).1) tt

pub returns-in_err-pivot_block-clause-ok : goal.returns-in_err-pivot_block-clause-ok
returns-in_err-pivot_block-clause-ok g c =
    rw ((err_from_is_err_and c.from_residual.result c.from_residual.ensures.1).1) tt

pub returns-clause-shape : goal.returns-clause-shape
returns-clause-shape g c = refl

pub returns-clause-flips : goal.returns-clause-flips
returns-clause-flips g c = refl
