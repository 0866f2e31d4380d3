use Rattle.std.proofs.Common.{◌≡◌, refl, sym, ap, subst, ◌∙◌, ℕ, ◌+◌, ◌≤◌, ◌<◌, suc, List, length, length-set}
use Rattle.std.proofs.Common.{slice_index_or, arith, rules, SFits, to_z, of_z, to_z-of_z, Bool, true, false, ℤ, pos}
use Rattle.std.proofs.Common.{inl, inr}
use Rattle.std.proofs.lemmas.Bool.{cases_lt}
use Rattle.stack_rational.proofs.Common.{w128, ordered_fractions, is_too_wide, widest, is_zero_whole}
use Rattle.stack_table.specs.Spots.{reduce_spot}
use Rattle.stack_rows.specs.RowForm.{number_at}
use Rattle.stack_rows.specs.RowSeen.{numbers_of}
use Rattle.stack_inverse.specs.RowBlock.{AllNumbersFit, AreFitting}
use Rattle.stack_inverse.specs.CellSteps.{TellsSpot}
use Rattle.stack_inverse.specs.declared.first.First.{First}
use Rattle.stack_inverse.specs.declared.row.TableRow.{TableRow}
use Rattle.stack_inverse.specs.declared.row.PivotRow.{PivotRow}
use Rattle.stack_inverse.specs.Columns.{RowSeen, multipliers, AreEntered}
use Rattle.stack_rows.specs.Marks.{mark_in}
use Rattle.stack_inverse.proofs.Steps.{row_stays}
use Rattle.stack_inverse.specs.RowsSeen.{seen_of, seen_at, number_in_row, cell_in_row, cells_of_rows, columns_of}
use Rattle.stack_inverse.specs.RowsSeen.{pivot_cell, IsReducedBy}
use Rattle.stack_inverse.proofs.PutRow.{seen_index, widths_set, done_set, left_set, fitting_set, under_positive}
use Rattle.stack_inverse.proofs.pivoting.reduce_others.Goals as goal
use Rattle.stack_inverse.proofs.pivoting.reduce_others.Goals.{After-index-rows-i}

-- a row that is known to fit stays where its number in the column is 0
stays : (p : First) (rows : List TableRow) (q : PivotRow) (k column : ℕ) → (seen_at rows k).fits ≡ true →
    AreFitting widest (cells_of_rows p rows) (seen_at rows) → number_in_row p (seen_at rows k) column ≡ pos 0 →
    IsReducedBy widest p (seen_at rows k) q k column (seen_at rows k)
stays p rows q k column f fitting z = row_stays p.rows p.columns.items (seen_at rows k).numbers
    (seen_at rows k).under (under_positive rows k) (numbers_of q.divided.row) q.divided.row.under k column (fitting k f)
    (ap is_zero_whole z)

-- so do rows that are passed over
passed : (p : First) (rows : List TableRow) (q : PivotRow) (entered : List ℤ) (touched : List ℕ) (all_fit : Bool)
    (k column : ℕ) → k ≤ p.rows → AreFitting widest (cells_of_rows p rows) (seen_at rows) →
    AreEntered p.rows p.columns.items (seen_at rows) column entered →
    ((i : ℕ) → i ≤ p.rows → mark_in touched i ≡ 0 → number_at entered i ≡ pos 0) →
    (all_fit ≡ true → (i : ℕ) → i ≤ p.rows → (seen_at rows i).fits ≡ true) →
    (all_fit ≡ true) × (mark_in touched k ≡ 0) → ((seen_at rows k).fits ≡ true)
    × IsReducedBy widest p (seen_at rows k) q k column (seen_at rows k)
passed p rows q entered touched all_fit k column l fitting is told fit h =
    let f = fit h.0 k l in
    (f, stays p rows q k column f fitting (sym (is k l) ∙ told k l h.1))

-- the row that is lent
module _ (c : After-index-rows-i) where
  abbrev lent : RowSeen
  lent = seen_of (slice_index_or c.loop-i.rows c.loop-i.i c.index-rows-i.result)

  inside : c.loop-i.i < length c.loop-i.rows
  inside = c.loop-i-test.true

  in_height : c.loop-i.i ≤ c.args.first.now.rows
  in_height = omega (arith, inside, c.loop-i.auto.rows, c.requires.height)

  -- is that row of the rows, and still as it was at first
  is_there : lent ≡ seen_at c.loop-i.rows c.loop-i.i
  is_there = seen_index c.loop-i.rows c.loop-i.i c.index-rows-i.result inside c.index-rows-i.is

  is_left : lent ≡ seen_at c.args.rows.now c.loop-i.i
  is_left = is_there ∙ c.loop-i.invariant.left c.loop-i.i (omega arith)

  -- has its width
  is_wide : length lent.numbers ≡ suc (multipliers c.args.first.now.rows)
  is_wide = ap (λ (s : RowSeen). length s.numbers) is_there ∙ c.loop-i.invariant.widths c.loop-i.i in_height

  -- and its number in the column is kept
  number_is : SFits w128 (number_at c.args.entered.now c.loop-i.i) →
      to_z w128 (of_z w128 (number_at c.args.entered.now c.loop-i.i))
      ≡ number_in_row c.args.first.now lent c.args.column
  number_is fits = to_z-of_z fits ∙ c.requires.entered c.loop-i.i in_height
      ∙ ap (λ (s : RowSeen). number_in_row c.args.first.now s c.args.column) (sym is_left)

pub loop-i-init : goal.loop-i-init
loop-i-init c =
    let p = c.args.first.now in
    let rows = c.args.rows.now in
    let next = c.next_row-i.ensures in
    let passes = λ (k : ℕ) (l : k < c.next_row-i.result). passed p rows c.args.pivot.now c.args.entered.now
    c.args.to_visit.now.touched.words.items c.args.to_visit.now.all_fit k c.args.column
    (omega (arith, l, next.within, c.requires.height)) c.requires.fitting c.requires.entered c.requires.touched
    c.requires.all_fit (next.none k (omega arith) l) in
    record {
      within = next.within;
      widths = c.requires.widths;
      left = λ k l. refl;
      fitting = c.requires.fitting;
      fit = λ k l d. (passes k l).0;
      done = λ k l d. (passes k l).1;
    }

pub loop-i-preserved-then-i-row : goal.loop-i-preserved-then-i-row
loop-i-preserved-then-i-row c =
    let p = c.args.first.now in
    let first = c.args.rows.now in
    let i = c.loop-i.i in
    let inv = c.loop-i.invariant in
    let next = c.next_row-i-then-i-row.ensures in
    let passes = λ (k : ℕ) (b : i + 1 ≤ k) (l : k < c.next_row-i-then-i-row.result). passed p first c.args.pivot.now
    c.args.entered.now c.args.to_visit.now.touched.words.items c.args.to_visit.now.all_fit k c.args.column
    (omega (arith, l, next.within, c.loop-i.auto.rows, c.requires.height)) c.requires.fitting c.requires.entered
    c.requires.touched c.requires.all_fit (next.none k b l) in
    record {
      within = next.within;
      widths = inv.widths;
      left = λ k l. inv.left k (omega (arith, l, next.later));
      fitting = inv.fitting;
      fit = λ k l d. elim (cases_lt k i) [
        | inl b ↦ inv.fit k b d
        | inr b ↦ ap (λ (s : RowSeen). s.fits) (inv.left k b)
            ∙ (passes k (omega (arith, b, d, c.if-i-row.true)) l).0
      ];
      done = λ k l d. elim (cases_lt k i) [
        | inl b ↦ inv.done k b d
        | inr b ↦ subst (λ (s : RowSeen). IsReducedBy widest p (seen_at first k) c.args.pivot.now k
            c.args.column s) (sym (inv.left k b))
            (passes k (omega (arith, b, d, c.if-i-row.true)) l).1
      ];
    }

pub reduce-requires-clause-width : goal.reduce-requires-clause-width
reduce-requires-clause-width c = is_wide (goal.at.reduce-requires-clause-width c).After-index-rows-i

pub loop-i-preserved : goal.loop-i-preserved
loop-i-preserved c =
    let at = (goal.at.loop-i-preserved c).After-index-rows-i in
    let p = c.args.first.now in
    let first = c.args.rows.now in
    let rows = c.loop-i.rows in
    let i = c.loop-i.i in
    let new = c.reduce.new.row in
    let inv = c.loop-i.invariant in
    let next = c.next_row-i-in-loop-i.ensures in
    let passes = λ (k : ℕ) (b : i + 1 ≤ k) (l : k < c.next_row-i-in-loop-i.result). passed p first c.args.pivot.now
    c.args.entered.now c.args.to_visit.now.touched.words.items c.args.to_visit.now.all_fit k c.args.column
    (omega (arith, l, next.within, c.loop-i.auto.rows, length-set rows i new, c.requires.height)) c.requires.fitting
    c.requires.entered c.requires.touched c.requires.all_fit (next.none k b l) in
    let left = left_set rows i new (inside at) (seen_at first) inv.left in
    let fits : SFits w128 (number_at c.args.entered.now i) = search rules in
    let here = c.in-Ok.ensures.ok c.args.column (number_is at fits)
    (subst (λ (s : RowSeen). s.fits ≡ true → AllNumbersFit widest (cell_in_row p s)) (sym (is_there at))
    (c.loop-i.invariant.fitting i)) in
    record {
      within = next.within;
      widths = widths_set rows i new (inside at) p.rows inv.widths (c.reduce.ensures.width ∙ is_wide at);
      left = λ k l. left k (omega (arith, l, next.later));
      fitting = fitting_set rows i new (inside at) widest (λ (k : ℕ) (s : RowSeen). cell_in_row p s) inv.fitting
          (λ _. here.cells.fits);
      fit = λ k l d. elim (cases_lt k (i + 1)) [
        | inl b ↦ done_set rows i new (inside at) (λ (k : ℕ) (s : RowSeen). s.fits ≡ true) c.args.row inv.fit
            c.in-Ok.ensures.fitting k b d
        | inr b ↦ ap (λ (s : RowSeen). s.fits) (left k b) ∙ (passes k b l).0
      ];
      done = λ k l d. elim (cases_lt k (i + 1)) [
        | inl b ↦ done_set rows i new (inside at) (λ (k : ℕ) (s : RowSeen). IsReducedBy widest p
            (seen_at first k) c.args.pivot.now k c.args.column s) c.args.row inv.done (subst (λ (s : RowSeen).
            IsReducedBy widest p s c.args.pivot.now i c.args.column (seen_of new)) (is_left at) here) k b d
        | inr b ↦ subst (λ (s : RowSeen). IsReducedBy widest p (seen_at first k) c.args.pivot.now k
            c.args.column s) (sym (left k b)) (passes k b l).1
      ];
    }

pub returns-in-Err-clause-widths : goal.returns-in-Err-clause-widths
returns-in-Err-clause-widths c =
    let at = (goal.at.returns-in-Err-clause-widths c).After-index-rows-i in
    widths_set c.loop-i.rows c.loop-i.i c.reduce.new.row (inside at) c.args.first.now.rows
    c.loop-i.invariant.widths (c.reduce.ensures.width ∙ is_wide at)

pub returns-in-Err-clause-fitting : goal.returns-in-Err-clause-fitting
returns-in-Err-clause-fitting c =
    let at = (goal.at.returns-in-Err-clause-fitting c).After-index-rows-i in
    fitting_set c.loop-i.rows c.loop-i.i c.reduce.new.row (inside at) widest
    (λ (k : ℕ) (s : RowSeen). cell_in_row c.args.first.now s) c.loop-i.invariant.fitting
    (λ d. let b : false ≡ true = sym c.in-Err.ensures.unfit ∙ d in absurd cc)

pub returns-in-Err-clause-refused : goal.returns-in-Err-clause-refused
returns-in-Err-clause-refused c =
    let at = (goal.at.returns-in-Err-clause-refused c).After-index-rows-i in
    let p = c.args.first.now in
    let i = c.loop-i.i in
    let fits : SFits w128 (number_at c.args.entered.now i) = search rules in (
      i,
      omega (arith, in_height at),
      record {
        apart = c.if-i-row.false;
        before = λ k l d. (c.loop-i.invariant.done k l d).cells.none;
        here = subst (λ (s : RowSeen). TellsSpot c.in-Err.e (reduce_spot ordered_fractions (is_too_wide widest)
            (columns_of p) (cell_in_row p s) (pivot_cell p c.args.pivot.now) (cell_in_row p s c.args.column) i))
            (is_left at) (c.in-Err.ensures.refused c.args.column (number_is at fits));
      },
    )

pub returns-clause-ok : goal.returns-clause-ok
returns-clause-ok c = λ k l d. c.loop-i.invariant.done k
    (omega (arith, l, c.loop-i-test.false, c.loop-i.auto.rows, c.requires.height)) d

pub returns-clause-fit : goal.returns-clause-fit
returns-clause-fit c = λ k l d. c.loop-i.invariant.fit k
    (omega (arith, l, c.loop-i-test.false, c.loop-i.auto.rows, c.requires.height)) d
