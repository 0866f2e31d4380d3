use Rattle.std.proofs.Common.{◌≡◌, sym, ap, subst, ◌∙◌, ℕ, ◌<◌, Bool, true, false, cond, None, ℤ, arith}
use Rattle.stack_rational.proofs.Common.{Fraction, sign_of, ordered_fractions, only_if, first, first_found, first_more}
use Rattle.stack_rational.proofs.Common.{is_too_wide, quotient}
use Rattle.stack_rational.specs.declared.exact.Op.TheVariants.{Quotient}
use Rattle.stack_table.specs.Table.{Shape, Tabled, columns}
use Rattle.stack_table.specs.Seen.{shape_of_table, table_of}
use Rattle.stack_bland.specs.Choice.{is_plus, ratio, ratio_item}
use Rattle.stack_bland.proofs.BestSoFar.{held_positive, held_other}
use Rattle.stack_bland.proofs.leaving_row.leaving.Goals as goal
use Rattle.stack_bland.proofs.leaving_row.leaving.Goals.{then-is_positive+in-Ok, else-is_positive}
use Rattle.stack_bland.proofs.leaving_row.leaving.Goals.{After-loop-i}

-- a row with a positive cell, and another
item : (m : ℤ) (S : Shape) (T : Tabled Fraction) (c i : ℕ) (x y : Fraction) (b : Bool) → T.cell i c ≡ x →
    T.cell i (columns S) ≡ y → is_plus (sign_of x.num) ≡ true → is_too_wide m Quotient y x ≡ b →
    ratio_item ordered_fractions S (is_too_wide m) T c i ≡ only_if b i
item m S T c i x y b ex ey p h =
    (λ z. cond (is_plus (sign_of (ex z).num)) (only_if (is_too_wide m Quotient (ey z) (ex z)) i) None)
    ∙ ap (λ t. cond t (only_if (is_too_wide m Quotient y x) i) None) p ∙ ap (λ t. only_if t i) h

other_item : (m : ℤ) (S : Shape) (T : Tabled Fraction) (c i : ℕ) →
    is_plus (sign_of (T.cell i c).num) ≡ false →
    ratio_item ordered_fractions S (is_too_wide m) T c i ≡ None
other_item m S T c i p =
    ap (λ b. cond b (only_if (is_too_wide m Quotient (T.cell i (columns S)) (T.cell i c)) i) None) p

pub returns-in-Err-clause-wide : goal.returns-in-Err-clause-wide
returns-in-Err-clause-wide g c =
    let e = g.S.Exact.exact in
    let m = g.S.Exact.MAX in
    let S = shape_of_table c.args.t.now in
    let T = table_of c.args.t.now in
    let i = c.loop-i.i in
    let k = c.args.column in
    first_found S.rows i (ratio_item ordered_fractions S (is_too_wide m) T k) i
    (subst (λ n. i < n) c.rows-i-end.ensures c.loop-i-test.true) c.loop-i.invariant.none
    (item m S T k i (e c.cell-cell.result) (e c.cell.result) true (sym c.cell-cell.ensures)
    (ap (T.cell i) (sym c.columns-right.ensures) ∙ sym c.cell.ensures)
    (sym c.is_positive.ensures ∙ c.if-is_positive.true) c.in-Err.ensures.wide)

pub loop-i-preserved : goal.loop-i-preserved
loop-i-preserved g c = elim c.if-is_positive.branch [
  | then-is_positive+in-Ok w ↦
      let e = g.S.Exact.exact in
      let m = g.S.Exact.MAX in
      let S = shape_of_table c.args.t.now in
      let T = table_of c.args.t.now in
      let i = c.loop-i.i in
      let k = c.args.column in
      let y = ap (T.cell i) (sym c.columns-right.ensures) ∙ sym w.cell.ensures in
      let positive = sym c.is_positive.ensures ∙ w.if-is_positive.true in
      rw w.best-is (record {
        none = first_more i (ratio_item ordered_fractions S (is_too_wide m) T k) c.loop-i.invariant.none
            (item m S T k i (e c.cell-cell.result) (e w.cell.result) false
            (sym c.cell-cell.ensures) y positive
            w.in-Ok.ensures.fits);
        held = held_positive e (λ i. T.cell i k)
            (ratio ordered_fractions S T k) T.basic i c.loop-i.best w.better.result
            w.in-Ok.ratio c.loop-i.invariant.held
            (ap (λ (v : Fraction). is_plus (sign_of v.num)) (sym c.cell-cell.ensures) ∙ positive)
            (w.in-Ok.ensures.ok ∙ (λ z. quotient ordered_fractions (sym y z) (c.cell-cell.ensures z)))
            w.better.ensures.none w.better.ensures.some;
      })
  | else-is_positive w ↦
      let S = shape_of_table c.args.t.now in
      let T = table_of c.args.t.now in
      let i = c.loop-i.i in
      let k = c.args.column in
      let p = ap (λ (v : Fraction). is_plus (sign_of v.num)) (sym c.cell-cell.ensures)
      ∙ sym c.is_positive.ensures
      ∙ w.if-is_positive.false in
      rw w.best-is (record {
        none = first_more i (ratio_item ordered_fractions S (is_too_wide g.S.Exact.MAX) T k)
            c.loop-i.invariant.none
            (other_item g.S.Exact.MAX S T k i p);
        held = held_other g.S.Exact.exact (λ i. T.cell i k)
            (ratio ordered_fractions S T k) T.basic i c.loop-i.best
            c.loop-i.invariant.held p;
      })
]

-- all rows have been looked at
module _ (g : _) (c : After-loop-i g) where
  end : c.loop-i.i ≡ (shape_of_table c.args.t.now).rows
  end = omega (arith, c.loop-i-test.false, c.loop-i.auto.i-end, c.rows-i-end.ensures)

  none : first (shape_of_table c.args.t.now).rows (ratio_item ordered_fractions (shape_of_table c.args.t.now)
      (is_too_wide g.S.Exact.MAX) (table_of c.args.t.now) c.args.column) ≡ None
  none = ap (λ n. first n (ratio_item ordered_fractions (shape_of_table c.args.t.now) (is_too_wide g.S.Exact.MAX)
      (table_of c.args.t.now) c.args.column)) (sym end) ∙ c.loop-i.invariant.none

pub returns-in-None-clause-fits : goal.returns-in-None-clause-fits
returns-in-None-clause-fits g c = none g (goal.at.returns-in-None-clause-fits g c).After-loop-i

pub returns-in-Some-clause-fits : goal.returns-in-Some-clause-fits
returns-in-Some-clause-fits g c = none g (goal.at.returns-in-Some-clause-fits g c).After-loop-i
