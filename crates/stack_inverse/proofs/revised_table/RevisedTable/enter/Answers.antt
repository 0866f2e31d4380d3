use Rattle.std.proofs.Common.{◌≡◌, ◌≢◌, sym, ◌∙◌, subst, subst₂, ℕ, ◌≤◌, List, ℤ, pos}
use Rattle.std.proofs.Common.{unsigned_abs}
use Rattle.std.specs.List.{AllByRecursion}
use Rattle.stack_rational.proofs.Common.{widest}
use Rattle.stack_rows.specs.RowForm.{number_at}
use Rattle.stack_inverse.specs.declared.row.TableRow.{TableRow}
use Rattle.stack_inverse.specs.Columns.{multipliers, cells_at, AreEntered}
use Rattle.stack_inverse.specs.RowsSeen.{seen_at}
use Rattle.stack_rows.specs.Marks.{mark_in}
use Rattle.stack_inverse.proofs.Made.{all_four}
use Rattle.stack_inverse.proofs.PutRow.{written, written_long}
use Rattle.stack_inverse.proofs.revised_table.RevisedTable.enter.Goals as goal

pub enter_column-requires-clause-nothing : goal.enter_column-requires-clause-nothing
enter_column-requires-clause-nothing c = λ i l z.
    let s = c.args.self.now in
    subst (λ (rs : List TableRow). AllByRecursion (λ x. number_at (seen_at rs i).numbers x.row ≡ pos 0)
    (cells_at s.first.columns.items c.args.column)) (sym c.as_slice.ensures.value)
    (c.touch.ensures.nothing (seen_at s.rows.items) s.marks i l z)

pub enter_column-requires-clause-marks_long : goal.enter_column-requires-clause-marks_long
enter_column-requires-clause-marks_long c =
    (c.touch.ensures.marks (seen_at c.args.self.now.rows.items) c.args.self.now.marks).touched_long

pub invariant_of-self-2-clause-one_number : goal.invariant_of-self-2-clause-one_number
invariant_of-self-2-clause-one_number c =
    let s = c.args.self.now in
    written_long s.entered c.enter_column.new.entered c.as_mut_slice.ensures.value c.enter_column.auto.entered
    ∙ s.one_number

pub invariant_of-self-2-clause-marks : goal.invariant_of-self-2-clause-marks
invariant_of-self-2-clause-marks c =
    let s = c.args.self.now in
    let k = c.touch.ensures.marks (seen_at s.rows.items) s.marks in
    record {
      places_long = k.places_long;
      touched_long = c.enter_column.ensures.marks_long ∙ k.touched_long;
      open_long = k.open_long;
      told = k.told;
      used = k.used;
      each_fits = k.each_fits;
      clean = k.clean;
    }

pub returns-clause-entered : goal.returns-clause-entered
returns-clause-entered c =
    let s = c.args.self.now in
    let f = s.first in
    let told = c.enter_column.ensures in
    let rows = c.as_slice.ensures.value in
    let is = sym (written s.entered c.enter_column.new.entered c.as_mut_slice.ensures.value
    c.enter_column.auto.entered) in
    all_four c.enter_column.result told.numbers told.fit told.right_fits told.told
    (λ numbers fit right_fits touched. record {
      numbers = subst₂ (λ (rs : List TableRow) (xs : List ℤ). AreEntered f.rows f.columns.items
          (seen_at rs) c.args.column xs) rows is numbers;
      fit = subst (λ (xs : List ℤ). (i : ℕ) → i ≤ f.rows → unsigned_abs (number_at xs i) ≤ unsigned_abs widest) is fit;
      right_fits = subst₂ (λ (rs : List TableRow) (xs : List ℤ). (i : ℕ) → i ≤ f.rows → number_at xs i ≢ pos 0 →
          unsigned_abs (number_at (seen_at rs i).numbers (multipliers f.rows)) ≤ unsigned_abs widest) rows is
          right_fits;
      touched = subst (λ (xs : List ℤ). (i : ℕ) → i ≤ f.rows → mark_in c.enter_column.new.marks.words.items i ≡ 0 →
          number_at xs i ≡ pos 0) is touched;
    })
