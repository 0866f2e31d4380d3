-- A row by its multipliers and its right side: its numbers in all columns, a row step on them, and their top.
use Rattle.std.proofs.Common.{◌≡◌, sym, ap, subst, ◌∙◌, ℕ, suc, ◌+◌, ◌-◌, ◌*◌, ◌<◌, ◌≤◌, List, length}
use Rattle.std.proofs.Common.{arith, mul-le-mul, ℤ, pos, nat_abs, ◌-ℤ◌, ◌*ℤ◌}
use Rattle.std.proofs.lemmas.Bool.Decides.{nat_tests}
use Rattle.stack_rational.proofs.Common.{expand, sums, ◌≺◌, mul_pos, over, dec_lt, ℕ_discrete, get_or_past}
use Rattle.stack_rows.specs.RowForm.{number_at, IsTaken}
use Rattle.stack_rows.proofs.OverOneDenominator.{same_over}
use Rattle.stack_inverse.specs.declared.columns.FirstColumn.{FirstColumn}
use Rattle.stack_inverse.specs.RowBlock.{IsWholeTop}
use Rattle.stack_inverse.specs.Columns.{multipliers, combined, sizes, first_at, AreFirst, number_with, cell_with}
use Rattle.stack_inverse.proofs.Linear.{combined_step, combined_same, combined_within}

-- nothing is made of nothing
nothing : (w k t g : ℤ) → pos 0 *ℤ w ≡ (pos 0 *ℤ k -ℤ t *ℤ pos 0) *ℤ g
nothing w k t g = simp expand (omega (arith, sums))

-- in a plain column
plain_within : (x : ℤ) (a c f s : ℕ) → nat_abs x ≤ a * f → f ≤ c → a * c ≤ s → nat_abs x ≤ s
plain_within x a c f s hx hf h = let u : a * f ≤ a * c = mul-le-mul (omega arith) hf in omega (arith, hx, u, h)

-- a multiplier
pub multiplier_within : (y : ℤ) (a c s : ℕ) → nat_abs y ≤ a → 0 < c → a * c ≤ s → nat_abs y ≤ s
multiplier_within y a c s hy hc h = let u : a * 1 ≤ a * c = mul-le-mul (omega arith) hc in omega (arith, hy, u, h)

-- no number that is kept is greater either
pub kept_by_top : (m column_top : ℕ) → 0 < column_top → (row : List ℤ) (b : ℕ) → length row ≡ suc (multipliers m) →
    IsWholeTop m row column_top b → (j : ℕ) → nat_abs (number_at row j) ≤ b
kept_by_top m column_top some row b long h j = go (dec_lt j (multipliers m)) (ℕ_discrete j (multipliers m))
  where
    go : Dec (j < multipliers m) → Dec (j ≡ multipliers m) → nat_abs (number_at row j) ≤ b
    go (yes l) d = multiplier_within (number_at row j) h.top column_top b (h.each j l) some h.product
    go (no l) (yes e) = subst (λ n. nat_abs (number_at row n) ≤ b) (sym e) h.right
    go (no l) (no d) = omega (arith, ap nat_abs (get_or_past row j (pos 0) (omega (arith, long, l, d))))

module _ (m : ℕ) (columns : List FirstColumn) where
  -- the top of all numbers of a row, by those of its multipliers and of column sums
  pub by_top : (column_top : ℕ) → AreFirst m (length columns) columns column_top → (row : List ℤ) (b : ℕ) →
      IsWholeTop m row column_top b → (j : ℕ) → nat_abs (number_with m columns row j) ≤ b
  by_top column_top first row b h j =
      let n = length columns in
      let M = multipliers m in
      let f = λ (r : ℕ). first_at columns r j in
      let plain : j < n → nat_abs (combined M (number_at row) f) ≤ b = λ l.
      plain_within (combined M (number_at row) f) h.top column_top (sizes M f) b
      (combined_within M h.top (number_at row) f h.each) (first.within j l) h.product in
      let artificial : n ≤ j → j < n + m → nat_abs (number_at row (j - n)) ≤ b = λ k l.
      multiplier_within (number_at row (j - n)) h.top column_top b
      (h.each (j - n) (omega (arith, k, l))) first.some h.product in
      grind (arith, nat_tests, plain, artificial, h.right)

  -- a row over d is reduced by the pivot row, and is then over g
  module _ (row pivot new : List ℤ) (d k t g : ℤ) (x : IsTaken row (d *ℤ k) pivot k t new g) where
    -- the step in all columns
    number_step : (j : ℕ) → number_with m columns new j *ℤ (d *ℤ k)
        ≡ (number_with m columns row j *ℤ k -ℤ t *ℤ number_with m columns pivot j) *ℤ g
    number_step j =
        let M = multipliers m in
        let f = λ (r : ℕ). first_at columns r j in
        let plain = combined_same M (λ r. number_at row r *ℤ k -ℤ t *ℤ number_at pivot r) (number_at new) f (d *ℤ k) g
        x.number ∙ ap (λ z. z *ℤ g) (combined_step M (number_at row) (number_at pivot) f k t) in
        grind (arith, nat_tests, plain, x.number (j - length columns), x.number M, nothing (d *ℤ k) k t g)

    -- and the cells that it makes
    pub stepped_cell : pos 0 ≺ d → pos 0 ≺ k → (j : ℕ) → cell_with m columns new g j
        ≡ over (number_with m columns row j *ℤ k -ℤ t *ℤ number_with m columns pivot j) (d *ℤ k)
    stepped_cell hd hk j = same_over (number_with m columns new j) g
        (number_with m columns row j *ℤ k -ℤ t *ℤ number_with m columns pivot j) (d *ℤ k) x.positive
        (mul_pos d k hd hk) (number_step j)
