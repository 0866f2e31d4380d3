use Rattle.std.proofs.Common.{◌≡◌, ◌≢◌, sym, ap, subst, subst₂, ◌∙◌, ℕ, suc, ◌+◌, ◌≤◌, true, List, length, get_or}
use Rattle.std.proofs.Common.{set, length-set, None, OnOk, IfErr, ℤ, pos, arith}
use Rattle.std.proofs.lemmas.Result.{on_ok_weaker}
use Rattle.stack_rational.proofs.Common.{with_items, Fraction, changed, next, ordered_fractions, is_too_wide, widest}
use Rattle.stack_bland.specs.Found.{TellsFound}
use Rattle.stack_table.specs.Block.{shape_of}
use Rattle.stack_table.specs.Table.{Tabled, columns, pivoted_at}
use Rattle.stack_table.specs.Spots.{cells_spot, pivot_spot}
use Rattle.stack_rows.specs.RowForm.{number_at}
use Rattle.stack_rows.specs.RowSeen.{numbers_of}
use Rattle.stack_inverse.specs.declared.first.First.{First}
use Rattle.stack_inverse.specs.declared.row.TableRow.{TableRow}
use Rattle.stack_inverse.specs.RowBlock.{IsPivotedCells, AreFitting, KeepsZeros}
use Rattle.stack_inverse.specs.Columns.{RowSeen, HaveWidths}
use Rattle.stack_inverse.specs.RowsSeen.{seen_at, number_in_row, cells_of_rows, columns_of}
use Rattle.stack_inverse.specs.Seen.{number_in, under_in, shape_of_revised, table_of_revised}
use Rattle.stack_inverse.specs.Marks.{least_negative}
use Rattle.stack_inverse.specs.Marking.{AreMarks, AreMarkedOn, IsMarkedOn}
use Rattle.stack_inverse.specs.CellSteps.{TellsSpot}
use Rattle.stack_inverse.proofs.PutRow.{written, written_long, under_positive}
use Rattle.stack_inverse.proofs.PlacesKept.{places_kept, marks_after, ok_gives}
use Rattle.stack_inverse.proofs.OpenColumns.{columns_kept}
use Rattle.stack_inverse.proofs.Steps.{zero_cell}
use Rattle.stack_table.proofs.Basics.{basic_changed, basic_below}
use Rattle.stack_inverse.proofs.revised_table.RevisedTable.pivot.Goals as goal
use Rattle.stack_inverse.proofs.revised_table.RevisedTable.pivot.Goals.{After-pivot_rows-done, After-mark_on}

pub pivot_rows-done-requires-clause-some : goal.pivot_rows-done-requires-clause-some
pivot_rows-done-requires-clause-some c =
    let s = c.args.self.now in
    let r = c.args.row in
    let k = c.args.column in
    λ e. c.requires.cell (zero_cell (number_in s r k) (under_in s r) (under_positive s.rows.items r)
    (subst (λ (rs : List TableRow). number_in_row s.first (seen_at rs r) k ≡ pos 0) c.as_mut_slice.ensures.value e))

-- the rows after the pivot
rows_are : (c : After-pivot_rows-done) → (with_items c.args.self.now.rows c.pivot_rows-done.new.rows).items
    ≡ c.pivot_rows-done.new.rows
rows_are c = written c.args.self.now.rows c.pivot_rows-done.new.rows c.as_mut_slice.ensures.value
    c.pivot_rows-done.auto.rows

pub invariant_of-self-2-clause-height : goal.invariant_of-self-2-clause-height
invariant_of-self-2-clause-height c =
    let s = c.args.self.now in
    written_long s.rows c.pivot_rows-done.new.rows c.as_mut_slice.ensures.value c.pivot_rows-done.auto.rows ∙ s.height

pub invariant_of-self-2-clause-widths : goal.invariant_of-self-2-clause-widths
invariant_of-self-2-clause-widths c =
    subst (λ (rs : List TableRow). HaveWidths c.args.self.now.first.rows (seen_at rs))
    (sym (rows_are (goal.at.invariant_of-self-2-clause-widths c).After-pivot_rows-done))
    c.pivot_rows-done.ensures.widths

pub invariant_of-self-2-clause-fitting : goal.invariant_of-self-2-clause-fitting
invariant_of-self-2-clause-fitting c =
    subst (λ (rs : List TableRow). AreFitting widest (cells_of_rows c.args.self.now.first rs) (seen_at rs))
    (sym (rows_are (goal.at.invariant_of-self-2-clause-fitting c).After-pivot_rows-done))
    c.pivot_rows-done.ensures.fitting

pub invariant_of-self-2-clause-basics : goal.invariant_of-self-2-clause-basics
invariant_of-self-2-clause-basics c = length-set c.args.self.now.basic.items c.args.row c.args.column
    ∙ c.args.self.now.basics

pub invariant_of-self-2-clause-basics_in : goal.invariant_of-self-2-clause-basics_in
invariant_of-self-2-clause-basics_in c =
    let s = c.args.self.now in
    let m = s.first.rows in
    basic_below s.basic.items c.args.row c.args.column m (columns (shape_of m s.contacts s.has_factor))
    (omega (arith, s.basics, c.requires.row_in)) (omega (arith, c.requires.column_in)) s.basics_in

-- what follows of the pivoted cells, where there is no refusal
of_cells : (c : After-pivot_rows-done) (Q : Type 0) → (IsPivotedCells widest (suc c.args.self.now.first.rows)
    (columns_of c.args.self.now.first) (cells_of_rows c.args.self.now.first c.as_mut_slice.result.now) c.args.row
    c.args.column (cells_of_rows c.args.self.now.first c.pivot_rows-done.new.rows) → Q) →
    OnOk c.pivot_rows-done.result Q
of_cells c Q h = on_ok_weaker c.pivot_rows-done.result h c.pivot_rows-done.ensures.ok

pub returns-clause-none : goal.returns-clause-none
returns-clause-none c =
    let s = c.args.self.now in
    let m = s.first.rows in
    of_cells (goal.at.returns-clause-none c).After-pivot_rows-done (pivot_spot ordered_fractions (is_too_wide widest)
    (shape_of_revised s) (table_of_revised s) c.args.row c.args.column ≡ None)
    (λ h. sym (λ z. cells_spot ordered_fractions (is_too_wide widest) (suc m) (suc (s.plain_count z + m))
    (cells_of_rows s.first (c.as_mut_slice.ensures.value z)) c.args.row c.args.column) ∙ h.none)

pub returns-clause-ok : goal.returns-clause-ok
returns-clause-ok c =
    let s = c.args.self.now in
    let r = c.args.row in
    let k = c.args.column in
    let at = (goal.at.returns-clause-ok c).After-pivot_rows-done in
    let basics : (i : ℕ) → get_or (set s.basic.items r k) i 0 ≡ changed (λ n. get_or s.basic.items n 0) r k i =
    λ i. basic_changed s.basic.items r k i (omega (arith, s.basics, c.requires.row_in)) in
    let T : Tabled Fraction = record {
      cell = cells_of_rows s.first (with_items s.rows c.pivot_rows-done.new.rows).items;
      basic = λ i. get_or (set s.basic.items r k) i 0;
    } in
    of_cells at (T ≡ pivoted_at ordered_fractions (shape_of_revised s) (table_of_revised s) r k)
    (λ h. λ z. record {
      cell = λ i j. ((λ z. cells_of_rows s.first (rows_are at z) i j) ∙ h.cell i j
          ∙ (λ z. next ordered_fractions (cells_of_rows s.first (c.as_mut_slice.ensures.value z)) r k i j)) z;
      basic = λ i. basics i z;
    })

-- the rows after the pivot
abbrev after : (c : After-mark_on) → ℕ → RowSeen
after c = seen_at (with_items c.args.self.now.rows c.pivot_rows-done.new.rows).items

rows_long : (c : After-mark_on) → length (with_items c.args.self.now.rows c.pivot_rows-done.new.rows).items
    ≡ suc c.args.self.now.first.rows
rows_long c =
    let s = c.args.self.now in
    written_long s.rows c.pivot_rows-done.new.rows c.as_mut_slice.ensures.value c.pivot_rows-done.auto.rows ∙ s.height

-- what is told of a pivot that was done
given : (c : After-mark_on) (Q : Type 0) → OnOk c.pivot_rows-done.result Q → c.is_ok.result ≡ true → Q
given c Q h e = ok_gives c.pivot_rows-done.result c.is_ok.result c.is_ok.ensures.value h e

-- the marks and the pivot's row as it is now
marked_on : (c : After-mark_on) → IsMarkedOn c.is_ok.result (after c c.args.row).numbers c.args.self.now.marking
    c.mark_on.new.self
marked_on c =
    let s = c.args.self.now in
    let h = c.mark_on.ensures in
    let own : c.is_ok.result ≡ true → numbers_of c.pivot_rows-done.new.pivot.divided.row
    ≡ (after c c.args.row).numbers =
    λ e. given c _ c.pivot_rows-done.ensures.own e ∙ sym (ap (λ (rs : List TableRow). (seen_at rs c.args.row).numbers)
    (written s.rows c.pivot_rows-done.new.rows c.as_mut_slice.ensures.value c.pivot_rows-done.auto.rows)) in
    record {
      places_long = h.places_long;
      open_long = h.open_long;
      uses = h.uses;
      to_visit = h.to_visit;
      done = λ e. subst (λ (row : List ℤ). AreMarkedOn row s.marking c.mark_on.new.self) (own e) (
          let d = h.done e in record {
            places_kept = d.places_kept;
            joined = d.joined;
            marks_kept = d.marks_kept;
            unused = d.unused;
          });
      full = h.full;
    }

-- what a pivot that was done keeps 0
abbrev Zeros : (f : First) (r column : ℕ) (old new : List TableRow) → Type 0
Zeros f r column old new = ((i : ℕ) → i ≤ f.rows → i ≢ r → KeepsZeros (seen_at old i).numbers (seen_at new r).numbers
    (number_in_row f (seen_at old i) column) (seen_at new i).numbers)
    × ((q : ℕ) → number_at (seen_at old r).numbers q ≡ pos 0 → number_at (seen_at new r).numbers q ≡ pos 0)

zeros : (c : After-mark_on) → c.is_ok.result ≡ true → Zeros c.args.self.now.first c.args.row c.args.column
    c.args.self.now.rows.items (with_items c.args.self.now.rows c.pivot_rows-done.new.rows).items
zeros c e =
    let s = c.args.self.now in
    let done = c.pivot_rows-done.ensures in
    subst₂ (λ (old new : List TableRow). Zeros s.first c.args.row c.args.column old new) c.as_mut_slice.ensures.value
    (sym (written s.rows c.pivot_rows-done.new.rows c.as_mut_slice.ensures.value c.pivot_rows-done.auto.rows)) (
      given c _ done.zeros e,
      given c _ done.own_zeros e,
    )

marks : (c : After-mark_on) → AreMarks c.args.self.now.first (after c) c.mark_on.new.self
marks c =
    let s = c.args.self.now in
    let f = s.first in
    let m = f.rows in
    let r = c.args.row in
    let k = s.marks in
    let new = c.mark_on.new.self in
    let marked = marked_on c in
    let rows = c.pivot_rows-done.new.rows in
    let is = written s.rows rows c.as_mut_slice.ensures.value c.pivot_rows-done.auto.rows in
    let entered = c.requires.entered in
    marks_after f (seen_at s.rows.items) (after c) s.marking new (after c r).numbers c.is_ok.result marked k
    (λ e. places_kept m r (seen_at s.rows.items) (after c) s.marking new (λ i. number_in s i c.args.column)
    (marked.done e) k.places_long (zeros c e).1 (zeros c e).0
    (λ i l z. sym (entered.numbers i l) ∙ entered.touched i l z) k.told)
    (λ e. subst (λ (rs : List TableRow). (i : ℕ) → i ≤ m → (seen_at rs i).fits ≡ true) (sym is)
    (given c _ c.pivot_rows-done.ensures.fit e))
    (λ e. columns_kept m f.columns.items (seen_at s.rows.items) (after c) r c.args.column c.requires.row_in
    (under_positive s.rows.items) (under_positive (with_items s.rows rows).items) f.first.rising
    (λ i j. (λ z. cells_of_rows f (is z) i j) ∙ (given c _ c.pivot_rows-done.ensures.ok e).cell i j
    ∙ (λ z. next ordered_fractions (cells_of_rows f (c.as_mut_slice.ensures.value z)) r c.args.column i j))
    s.marking new (marked.done e) (s.marking.uses_long ∙ k.places_long) k.used k.clean)

pub least_negative-self-requires-clause-marks : goal.least_negative-self-requires-clause-marks
least_negative-self-requires-clause-marks c =
    rw c.as_slice-2.ensures.value (marks (goal.at.least_negative-self-requires-clause-marks c).After-mark_on)

pub least_negative-self-requires-clause-height : goal.least_negative-self-requires-clause-height
least_negative-self-requires-clause-height c =
    rw c.as_slice-2.ensures.value (rows_long (goal.at.least_negative-self-requires-clause-height c).After-mark_on)

pub invariant_of-self-2-clause-marks : goal.invariant_of-self-2-clause-marks
invariant_of-self-2-clause-marks c =
    subst (λ (rs : List TableRow). AreMarks c.args.self.now.first (seen_at rs) c.least_negative-self.new.self)
    c.as_slice-2.ensures.value c.least_negative-self.ensures.marks

pub invariant_of-self-2-clause-found : goal.invariant_of-self-2-clause-found
invariant_of-self-2-clause-found c =
    let f = c.args.self.now.first in
    subst (λ (rs : List TableRow). TellsFound c.least_negative-self.result (least_negative
    (number_in_row f (seen_at rs f.rows)) (length f.columns.items)))
    c.as_slice-2.ensures.value c.least_negative-self.ensures.found

pub pivot_rows-done-requires-clause-touched : goal.pivot_rows-done-requires-clause-touched
pivot_rows-done-requires-clause-touched c = rw c.as_slice.ensures.value c.requires.entered.touched

pub pivot_rows-done-requires-clause-all_fit : goal.pivot_rows-done-requires-clause-all_fit
pivot_rows-done-requires-clause-all_fit c =
    let s = c.args.self.now in
    rw c.as_mut_slice.ensures.value s.marks.each_fits

pub returns-clause-refused : goal.returns-clause-refused
returns-clause-refused c =
    let s = c.args.self.now in
    let m = s.first.rows in
    subst (λ spot. IfErr c.pivot_rows-done.result (λ e. TellsSpot e spot))
    (λ z. cells_spot ordered_fractions (is_too_wide widest) (suc m) (suc (s.plain_count z + m))
    (cells_of_rows s.first (c.as_mut_slice.ensures.value z)) c.args.row c.args.column) c.pivot_rows-done.ensures.refused

pub pivot_rows-done-requires-clause-height : goal.pivot_rows-done-requires-clause-height
pivot_rows-done-requires-clause-height c =
    let s = c.args.self.now in
    rw c.as_mut_slice.ensures.value s.height

pub pivot_rows-done-requires-clause-widths : goal.pivot_rows-done-requires-clause-widths
pivot_rows-done-requires-clause-widths c =
    let s = c.args.self.now in
    rw c.as_mut_slice.ensures.value s.widths

pub pivot_rows-done-requires-clause-fitting : goal.pivot_rows-done-requires-clause-fitting
pivot_rows-done-requires-clause-fitting c =
    let s = c.args.self.now in
    rw c.as_mut_slice.ensures.value s.fitting

pub pivot_rows-done-requires-clause-entered : goal.pivot_rows-done-requires-clause-entered
pivot_rows-done-requires-clause-entered c =
    let s = c.args.self.now in
    rw (c.as_mut_slice.ensures.value, c.as_slice.ensures.value) c.requires.entered.numbers

pub pivot_rows-done-requires-clause-long : goal.pivot_rows-done-requires-clause-long
pivot_rows-done-requires-clause-long c =
    let s = c.args.self.now in
    rw c.as_slice.ensures.value s.one_number

pub mark_on-requires : goal.mark_on-requires
mark_on-requires c =
    let s = c.args.self.now in
    c.pivot_rows-done.ensures.room ∙ s.room ∙ ap suc (sym s.marks.places_long)
