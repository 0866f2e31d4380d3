-- The pivot row, divided by its number in the pivot's column; and the cells past the last row.
use Rattle.std.proofs.Common.{◌≡◌, ◌≢◌, refl, sym, ap, ◌∙◌, ℕ, zero, suc, ◌≤◌, ◌-◌, ◌*◌, List, [], length, Bool}
use Rattle.std.proofs.Common.{true, unsigned_abs, nat_abs, arith, ℤ, pos, ◌*ℤ◌}
use Rattle.std.proofs.lemmas.Bool.Decides.{nat_tests}
use Rattle.stack_rational.proofs.Common.{ints, expand, sums, ◌≺◌, over, is_zero, widest, fraction_fits}
use Rattle.stack_rational.proofs.Common.{unsigned_abs-mul, zero-*ℤ}
use Rattle.stack_rational.proofs.Fitting.{is_zero-of}
use Rattle.stack_inverse.specs.declared.columns.FirstColumn.{FirstColumn}
use Rattle.stack_rows.specs.RowForm.{number_at, IsSameRow}
use Rattle.stack_inverse.specs.RowBlock.{AreWithin, IsDividedRow}
use Rattle.stack_inverse.specs.Columns.{multipliers, combined, first_at, RowSeen, no_row, IsPut, number_with}
use Rattle.stack_inverse.specs.Columns.{cell_with, revised_cell}
use Rattle.stack_inverse.proofs.Linear.{combined_same}
use Rattle.stack_inverse.proofs.FirstRows.{nothing_gives}
use Rattle.stack_rows.proofs.OverOneDenominator.{over_fits}
use Rattle.stack_inverse.proofs.Bounds.{division_is, division_fits, division_none}
use Rattle.stack_inverse.proofs.Steps.{over_zero}

-- a product with a size that isn't 0 is 0 only if the other one is
no_size : (a b : ℕ) → a * b ≡ 0 → b ≢ 0 → a ≡ 0
no_size zero b e h = refl
no_size (suc a) b e h = absurd (h (omega (arith, e)))

-- and so with numbers
no_other : (x n : ℤ) → n ≢ pos 0 → x *ℤ n ≡ pos 0 → x ≡ pos 0
no_other x n h e = omega (
  arith,
  ints,
  no_size (nat_abs x) (nat_abs n) (sym (unsigned_abs-mul x n) ∙ ap nat_abs e) (λ z. h (omega (arith, ints, z))),
)

-- what is 0 in a row is 0 in it over another denominator
pub divided_zeros : (old new : List ℤ) (n e : ℤ) → n ≢ pos 0 → IsSameRow old n new e → (q : ℕ) →
    number_at old q ≡ pos 0 → number_at new q ≡ pos 0
divided_zeros old new n e some s q z = no_other (number_at new q) n some (s.cross q ∙ ap (λ y. y *ℤ e) z
    ∙ zero-*ℤ e)

-- nothing stays nothing
nothing : (q e : ℤ) → pos 0 *ℤ q ≡ pos 0 *ℤ e
nothing q e = simp expand (omega (arith, sums))

module _ (m : ℕ) (columns : List FirstColumn) where
  -- the same row over another denominator, in all columns
  number_same : (old new : List ℤ) (q g : ℤ) → IsSameRow old q new g → (j : ℕ) →
      number_with m columns new j *ℤ q ≡ number_with m columns old j *ℤ g
  number_same old new q g s j =
      let M = multipliers m in
      let f = λ (r : ℕ). first_at columns r j in
      let plain : combined M (number_at new) f *ℤ q ≡ combined M (number_at old) f *ℤ g =
      combined_same M (number_at old) (number_at new) f q g s.cross in
      let none : pos 0 *ℤ q ≡ pos 0 *ℤ g = nothing q g in
      grind (arith, nat_tests, plain, none, s.cross (j - length columns), s.cross M)

  -- past the last row all is 0
  number_outside : (j : ℕ) → number_with m columns [] j ≡ pos 0
  number_outside j =
      let f = λ (r : ℕ). first_at columns r j in
      let none : combined (multipliers m) (λ r. pos 0) f ≡ pos 0 = nothing_gives (multipliers m) f in
      grind (arith, nat_tests, none)

  cell_outside : (s : ℕ → RowSeen) (k j : ℕ) → s k ≡ no_row →
      revised_cell m columns s k j ≡ over (pos 0) (pos 1)
  cell_outside s k j e = ap (λ (r : RowSeen). cell_with m columns r.numbers
      r.under j) e ∙ ap (λ n. over n (pos 1)) (number_outside j)

  -- so is each cell there
  pub cell_outside_zero : (s : ℕ → RowSeen) (k j : ℕ) → s k ≡ no_row →
      is_zero (revised_cell m columns s k j) ≡ true
  cell_outside_zero s k j e = ap is_zero (cell_outside s k j e ∙ over_zero (pos 1) (omega (arith, ints)))
      ∙ is_zero-of

  -- and it fits
  pub cell_outside_fits : (s : ℕ → RowSeen) (k j : ℕ) → s k ≡ no_row →
      fraction_fits widest (revised_cell m columns s k j) ≡ true
  cell_outside_fits s k j e = ap (fraction_fits widest) (cell_outside s k j e)
      ∙ over_fits widest (pos 0) (pos 1) (omega (arith, ints)) (omega arith) (omega arith)

  -- the pivot row is the written row, divided by its cell; no written quotient is too wide, and its cells fit
  pub pivot_row : (row : List ℤ) (d : ℤ) → pos 0 ≺ d → (c : ℕ) → (pivot : List ℤ) (n under : ℤ)
      (top : ℕ) → n ≡ number_with m columns row c → n ≢ pos 0 →
      IsSameRow row n pivot under → AreWithin (number_with m columns pivot) top → top ≤ unsigned_abs widest →
      unsigned_abs under ≤ unsigned_abs widest →
      IsDividedRow widest (cell_with m columns row d) c (cell_with m columns pivot under)
  pivot_row row d positive c pivot n under top hn some s b fits under_fits = record {
    cell = division_is widest x a d q under (unsigned_abs widest) positive s.positive some_there cross within under_fits
        (omega arith);
    none = division_none widest x a d q under (unsigned_abs widest) positive s.positive some_there cross within
        under_fits (omega arith);
    fits = division_fits widest x a d q under (unsigned_abs widest) positive s.positive some_there cross within
        under_fits (omega arith);
  }
    where
      x : ℕ → ℤ
      x = number_with m columns row

      a : ℕ → ℤ
      a = number_with m columns pivot

      q : ℤ
      q = number_with m columns row c

      some_there : number_with m columns row c ≢ pos 0
      some_there e = some (hn ∙ e)

      cross : (j : ℕ) → number_with m columns pivot j *ℤ number_with m columns row c
          ≡ number_with m columns row j *ℤ under
      cross j = ap (λ z. number_with m columns pivot j *ℤ z) (sym hn) ∙ number_same row pivot n under s j

      within : (j : ℕ) → unsigned_abs (number_with m columns pivot j) ≤ unsigned_abs widest
      within j = omega (arith, b j, fits)

  -- a row that is put has the cells of its numbers
  pub put_own : (s t : ℕ → RowSeen) (r : ℕ) (pivot : List ℤ) (under : ℤ) (told : Bool) →
      IsPut s r pivot under told t → (j : ℕ) → revised_cell m columns t r j ≡ cell_with m columns pivot under j
  put_own s t r pivot under told p j = λ z. cell_with m columns (p.own_numbers z) (p.own_under z) j
