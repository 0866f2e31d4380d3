use Rattle.std.proofs.Common.{◌≡◌, ◌<◌, refl, sym, ap, subst, ◌∙◌, ℕ, length, get_or, List, pos, arith}
use Rattle.std.specs.List.{AllByRecursion}
use Rattle.std.proofs.lemmas.List.{get_or_default}
use Rattle.std.proofs.lemmas.List.Elements.{All-from_recursion, recursion_from_All}
use Rattle.stack_rational.proofs.Common.{ℕ_discrete}
use Rattle.stack_rows.specs.RowForm.{number_at}
use Rattle.stack_inverse.specs.declared.columns.Cell.{Cell}
use Rattle.stack_rows.specs.declared.marks.Marks.{Marks}
use Rattle.stack_inverse.specs.Columns.{multipliers, cells_at}
use Rattle.stack_rows.specs.Marks.{mark_in}
use Rattle.stack_inverse.specs.Marks.{mark_at}
use Rattle.stack_inverse.proofs.Entered.{rises_of, cells_below, cells_have}
use Rattle.stack_inverse.proofs.Made.{cells_of}
use Rattle.stack_inverse.proofs.Marked.{list_read}
use Rattle.stack_inverse.proofs.marking.Marking.touch.Goals as goal
use Rattle.stack_inverse.proofs.marking.Marking.touch.Goals.{After-as_slice-cells}

abbrev no_cell : Cell
no_cell = record { row = 0; value = pos 0 }

-- the cells that are looked at
cells : (c : After-as_slice-cells) → c.as_slice-cells.result.now ≡ cells_at c.args.first.now.columns.items c.args.column
cells c = c.as_slice-cells.ensures.value
    ∙ cells_of c.args.first.now.columns.items c.args.column c.index.result.now c.requires.column_in c.index.ensures

-- each stands in the row of a list
rows_in : (c : After-as_slice-cells) →
    AllByRecursion (λ x. x.row < multipliers c.args.first.now.rows) c.as_slice-cells.result.now
rows_in c =
    let f = c.args.first.now in
    let M = multipliers f.rows in
    subst (λ (xs : List Cell). AllByRecursion (λ x. x.row < M) xs) (sym (cells c))
    (cells_below M 0 (cells_at f.columns.items c.args.column)
    (rises_of M 0 _ (f.first.rising c.args.column c.requires.column_in)))

in_row : (c : After-as_slice-cells) (k : ℕ) → k < length c.as_slice-cells.result.now →
    (get_or c.as_slice-cells.result.now k no_cell).row < multipliers c.args.first.now.rows
in_row c k = All-from_recursion (λ (x : Cell). x.row < multipliers c.args.first.now.rows) c.as_slice-cells.result.now
    (rows_in c) k no_cell

pub index-requires-in-loop-cell : goal.index-requires-in-loop-cell
index-requires-in-loop-cell c =
    let inv = c.loop-cell.invariant in
    let below = in_row (goal.at.index-requires-in-loop-cell c).After-as_slice-cells c.loop-cell.cell-index
    c.loop-cell-test.true in
    omega (arith, below, c.loop-cell.self.places.ok.0, ap length inv.places, c.requires.long)

pub join-requires : goal.join-requires
join-requires c =
    let k = c.loop-cell.self in
    let below = in_row (goal.at.join-requires c).After-as_slice-cells c.loop-cell.cell-index c.loop-cell-test.true in
    let lt : (get_or c.as_slice-cells.result.now c.loop-cell.cell-index no_cell).row < length k.places.items =
    omega (arith, below, ap length c.loop-cell.invariant.places, c.requires.long) in
    ap length (list_read k.places.items _ c.index-in-loop-cell.result.now lt c.index-in-loop-cell.ensures)
    ∙ k.places_wide _ lt

pub loop-cell-init : goal.loop-cell-init
loop-cell-init c = record {
  places = refl;
  nothing = λ i z k d f l. absurd (omega (arith, l));
  marks = λ s k. record {
    places_long = k.places_long;
    touched_long = c.clear.ensures.long ∙ k.touched_long;
    open_long = k.open_long;
    told = k.told;
    used = k.used;
    each_fits = k.each_fits;
    clean = k.clean;
  };
}

pub loop-cell-preserved : goal.loop-cell-preserved
loop-cell-preserved c =
    let inv = c.loop-cell.invariant in
    let places = c.loop-cell.self.places.items in
    let at = c.loop-cell.cell-index in
    let xs = c.as_slice-cells.result.now in
    let joined = c.join.ensures.joined in
    let below = in_row (goal.at.loop-cell-preserved c).After-as_slice-cells at c.loop-cell-test.true in
    let lt : (get_or xs at no_cell).row < length places =
    omega (arith, below, ap length inv.places, c.requires.long) in
    let read = list_read places (get_or xs at no_cell).row c.index-in-loop-cell.result.now lt
    c.index-in-loop-cell.ensures in
    record {
      places = inv.places;
      nothing = λ i z q d f l. elim (ℕ_discrete q at) [
        | yes e ↦ ap (λ (x : Cell). mark_at places x.row i) (sym (get_or_default xs at no_cell d c.loop-cell-test.true
            ∙ ap (λ n. get_or xs n d) (sym e))) ∙ ap (λ (ws : List ℕ). mark_in ws i) (sym read)
            ∙ omega (arith, z, joined i)
        | no n ↦ inv.nothing i (omega (arith, z, joined i)) q d f (omega (arith, l, n))
      ];
      marks = λ s old. let k = inv.marks s old in record {
        places_long = k.places_long;
        touched_long = c.join.ensures.long ∙ k.touched_long;
        open_long = k.open_long;
        told = k.told;
        used = k.used;
        each_fits = k.each_fits;
        clean = k.clean;
      };
    }

pub returns-clause-nothing : goal.returns-clause-nothing
returns-clause-nothing c = λ s k i l z.
    let f = c.args.first.now in
    let j = c.args.column in
    let M = multipliers f.rows in
    let inv = c.loop-cell.invariant in
    let places = c.loop-cell.self.places.items in
    let all = recursion_from_All (λ (x : Cell). mark_at places x.row i ≡ 0) c.as_slice-cells.result.now
    (λ q d b. inv.nothing i z q d (omega arith) (omega (arith, b, c.loop-cell-test.false))) in
    cells_have M 0 (cells_at f.columns.items j) (λ r. mark_at places r i ≡ 0) (λ r. number_at (s i).numbers r ≡ pos 0)
    (rises_of M 0 _ (f.first.rising j c.requires.column_in))
    (λ r b h. k.told i r l b (ap (λ (ls : List Marks). mark_at ls r i) (sym inv.places) ∙ h))
    (subst (λ (xs : List Cell). AllByRecursion (λ x. mark_at places x.row i ≡ 0) xs)
    (cells (goal.at.returns-clause-nothing c).After-as_slice-cells) all)
