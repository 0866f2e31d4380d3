-- A row that is reduced cell by cell: its cells fit where nothing that is written is too wide.
use Rattle.std.proofs.Common.{◌≡◌, refl, sym, ap, subst, ◌∙◌, ℕ, suc, ◌+◌, ◌*◌, ◌/◌, ◌<◌, ◌≤◌, true, false}
use Rattle.std.proofs.Common.{None, List, length, arith, mul-le-mul, ℤ, pos, nat_abs, ◌*ℤ◌, leb-true}
use Rattle.std.proofs.lemmas.Bool.Decides.{nat_tests}
use Rattle.stack_rational.proofs.Common.{dec_lt, mul-div_cancel', ints, unsigned_abs-mul, Fraction, gcd, only_if}
use Rattle.stack_rational.proofs.Common.{gcd-left, gcd-right, mul, neg, ◌≺◌, over, ordered_fractions, fraction_fits}
use Rattle.stack_rational.proofs.Common.{sum_fits, is_too_wide, first-none, not-false, left_true, right_true, den_pos}
use Rattle.stack_rational.proofs.Common.{left_term, common_denominator, widest}
use Rattle.stack_algebra.proofs.Search.{or_none, only_if-none}
use Rattle.stack_rational.specs.declared.exact.Op.TheVariants.{Difference, Product}
use Rattle.stack_rational.proofs.Crosswise.{positive-part}
use Rattle.stack_rational.proofs.Fitting.{answer_fits, fits-of}
use Rattle.stack_table.specs.declared.types.Step.TheVariants.{Multiply, Subtract}
use Rattle.stack_table.specs.Spots.{reduced, reduce_item, reduce_spot}
use Rattle.stack_inverse.specs.declared.columns.FirstColumn.{FirstColumn}
use Rattle.stack_rows.specs.RowForm.{IsTaken}
use Rattle.stack_inverse.specs.RowBlock.{AllNumbersFit, IsReduced}
use Rattle.stack_inverse.specs.Columns.{number_with, cell_with}
use Rattle.stack_rows.proofs.OverOneDenominator.{over_fits, within_multiple}
use Rattle.stack_inverse.proofs.Steps.{taken_own, taken_keeps}

-- where a sum isn't too wide its first number fits
first_fits : (m : ℤ) (x y : Fraction) → sum_fits m x y ≡ true → fraction_fits m x ≡ true
first_fits m x y h = fits-of m x (record {
  num = within_multiple m x.num (left_term x y) q some refl
      (leb-true (nat_abs (left_term x y)) (nat_abs m) (right_true _ _ (left_true _ _ (left_true _ _ h))));
  den = omega (
    arith,
    grown x.den q some,
    common,
    leb-true (nat_abs (common_denominator x y)) (nat_abs m) (left_true _ _ (left_true _ _ (left_true _ _ h))),
  );
})
  where
    g : ℕ
    g = gcd x.den y.den

    p : ℕ
    p = x.den / gcd x.den y.den

    q : ℕ
    q = y.den / gcd x.den y.den

    some : 0 < q
    some = omega (arith, ints, positive-part (pos y.den) (gcd x.den y.den) (den_pos y) (gcd-right x.den y.den))

    grown : (a b : ℕ) → 0 < b → a ≤ a * b
    grown a b l = let u : a * 1 ≤ a * b = mul-le-mul (omega arith) l in omega (arith, u)

    common : nat_abs (common_denominator x y) ≡ x.den * q
    common = unsigned_abs-mul (pos p) (pos y.den) ∙ ap (λ n. p * n) (sym (mul-div_cancel' g (gcd-right x.den y.den)))
        ∙ turn p g q ∙ ap (λ n. n * q) (mul-div_cancel' g (gcd-left x.den y.den))
      where
        turn : (p g q : ℕ) → p * (g * q) ≡ g * p * q
        turn p g q = omega arith

-- what is written at a cell fits
item_fits : (m : ℤ) (f g : ℕ → Fraction) (k : Fraction) (i j : ℕ) →
    reduce_item ordered_fractions (is_too_wide m) f g k i j ≡ None →
    fraction_fits m (reduced ordered_fractions f g k j) ≡ true
item_fits m f g k i j h = answer_fits m Difference (f j) (mul k (g j))
    (first_fits m (f j) (neg (mul k (g j))) (not-false _ narrow)) narrow
  where
    narrow : is_too_wide m Difference (f j) (mul k (g j)) ≡ false
    narrow = only_if-none _ (record { row = i; column = j; step = Subtract })
        (or_none (only_if (is_too_wide m Product k (g j)) (record { row = i; column = j; step = Multiply }))
        (only_if (is_too_wide m Difference (f j) (mul k (g j))) (record { row = i; column = j; step = Subtract })) h).1

module _ (m : ℕ) (columns : List FirstColumn) (row : List ℤ) (d : ℤ) (positive : pos 0 ≺ d) where
  -- the cell past the right side fits
  past_fits : nat_abs d ≤ nat_abs widest → (j : ℕ) → length columns + m < j →
      fraction_fits widest (cell_with m columns row d j) ≡ true
  past_fits within j l =
      let nothing : number_with m columns row j ≡ pos 0 = grind (arith, nat_tests) in
      over_fits widest (number_with m columns row j) d positive
      (subst (λ z. nat_abs z ≤ nat_abs widest) (sym nothing) (omega arith)) within

  -- the cells of a row that is made where nothing is too wide
  by_cells_fit : nat_abs d ≤ nat_abs widest → (old g : ℕ → Fraction) (k : Fraction) (i : ℕ) →
      ((j : ℕ) → cell_with m columns row d j ≡ reduced ordered_fractions old g k j) →
      reduce_spot ordered_fractions (is_too_wide widest) (suc (length columns + m)) old g k i ≡ None →
      AllNumbersFit widest (cell_with m columns row d)
  by_cells_fit within old g k i own_is none j = elim (dec_lt j (suc (length columns + m))) [
    | yes l ↦ ap (fraction_fits widest) (own_is j) ∙ item_fits widest old g k i j
        (first-none (suc (length columns + m)) _ none j l)
    | no l ↦ past_fits within j (omega (arith, l))
  ]

-- a row that is reduced cell by cell
module _ (m : ℕ) (columns : List FirstColumn) (row : List ℤ) (d : ℤ) (positive : pos 0 ≺ d) where
  pub row_by_cells : (new pivot : List ℤ) (after e f : ℤ) (i column : ℕ) → pos 0 ≺ e → nat_abs after ≤ nat_abs widest →
      f ≡ number_with m columns row column → IsTaken row (d *ℤ e) pivot e f new after →
      reduce_spot ordered_fractions (is_too_wide widest) (suc (length columns + m)) (cell_with m columns row d)
      (cell_with m columns pivot e) (over f d) i ≡ None →
      IsReduced widest m columns row d pivot e i column new after
  row_by_cells new pivot after e f i column he fits hf x none = record {
    cells = record {
      own = own_is;
      fits = by_cells_fit m columns new after x.positive fits (cell_with m columns row d)
          (cell_with m columns pivot e) (cell_with m columns row d column) i own_is none_is;
      none = none_is;
    };
    zeros = taken_keeps m columns row d positive new pivot after e e f f column he he hf refl x;
  }
    where
      own_is : (j : ℕ) → cell_with m columns new after j ≡ reduced ordered_fractions (cell_with m columns row d)
          (cell_with m columns pivot e) (cell_with m columns row d column) j
      own_is = taken_own m columns row d positive new pivot after e e f f column he he hf refl x

      none_is : reduce_spot ordered_fractions (is_too_wide widest) (suc (length columns + m))
          (cell_with m columns row d) (cell_with m columns pivot e) (cell_with m columns row d column) i ≡ None
      none_is = sym (λ z. reduce_spot ordered_fractions (is_too_wide widest) (suc (length columns + m))
          (cell_with m columns row d) (cell_with m columns pivot e) (over (hf z) d) i) ∙ none
