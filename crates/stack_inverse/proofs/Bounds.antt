-- Where bounds of the numbers of two rows fit, nothing that a row step or a division writes is too wide.
use Rattle.std.proofs.Common.{◌≡◌, ◌≢◌, sym, ap, ◌∙◌, ℕ, ◌+◌, ◌*◌, ◌≤◌, true, false, not, arith, None, mul-le-mul, ℤ}
use Rattle.std.proofs.Common.{pos, nat_abs, neg_ℤ, ◌+ℤ◌, ◌-ℤ◌, ◌*ℤ◌}
use Rattle.stack_rational.proofs.Common.{ints, unsigned_abs-mul, or_else, only_if, ◌≺◌, mul_pos, mul, neg, over}
use Rattle.stack_rational.proofs.Common.{ordered_fractions, fraction_fits, is_too_wide, sum_fits, Within}
use Rattle.stack_rational.specs.declared.exact.Op.TheVariants.{Difference, Product}
use Rattle.stack_table.specs.declared.types.Step.TheVariants.{Divide, Multiply, Subtract}
use Rattle.stack_table.specs.Spots.{divided, divide_item, reduce_item}
use Rattle.stack_rows.proofs.OverOneDenominator.{over_fits, sum_fits_over, mul_over, quotient_over}
use Rattle.stack_inverse.proofs.StepCell.{scaled_cell, taken}

-- of plain numbers
left_size : (a k b t r g : ℕ) → a ≤ b → b * k + t * r ≤ g → a * k ≤ g
left_size a k b t r g h w = let p : a * k ≤ b * k = mul-le-mul h (omega arith) in omega (arith, p, w)

-- the term of the pivot row
right_size : (p k b t r g : ℕ) → p ≤ r → b * k + t * r ≤ g → t * p ≤ g
right_size p k b t r g h w = let q : t * p ≤ t * r = mul-le-mul (omega arith) h in omega (arith, q, w)

-- both terms together
both_sizes : (a p k b t r g : ℕ) → a ≤ b → p ≤ r → b * k + t * r ≤ g → a * k + t * p ≤ g
both_sizes a p k b t r g h l w = let u : a * k ≤ b * k = mul-le-mul h (omega arith) in
    let v : t * p ≤ t * r = mul-le-mul (omega arith) l in omega (arith, u, v, w)

-- a row and the pivot row as index functions, over d and over e, with bounds; f is the row's number in the pivot's
-- column
module _ (m : ℤ) (x p : ℕ → ℤ) (d e f k t : ℤ) (b r : ℕ) (hd : pos 0 ≺ d) (he : pos 0 ≺ e) (hk : pos 0 ≺ k)
    (c : f *ℤ k ≡ t *ℤ e) (hx : (j : ℕ) → nat_abs (x j) ≤ b) (hp : (j : ℕ) → nat_abs (p j) ≤ r)
    (fits : b * nat_abs k + nat_abs t * r ≤ nat_abs m) (under : Within m (d *ℤ k)) where
  hdk : pos 0 ≺ d *ℤ k
  hdk = mul_pos d k hd hk

  left : (j : ℕ) → Within m (x j *ℤ k)
  left j = omega (
    arith,
    unsigned_abs-mul (x j) k,
    left_size (nat_abs (x j)) (nat_abs k) b (nat_abs t) r (nat_abs m) (hx j) fits,
  )

  right : (j : ℕ) → Within m (t *ℤ p j)
  right j = omega (
    arith,
    unsigned_abs-mul t (p j),
    right_size (nat_abs (p j)) (nat_abs k) b (nat_abs t) r (nat_abs m) (hp j) fits,
  )

  opposite_size : (z : ℤ) → nat_abs (neg_ℤ z) ≡ nat_abs z
  opposite_size z = omega (arith, ints)

  sum_size : (y z : ℤ) → nat_abs (y +ℤ z) ≤ nat_abs y + nat_abs z
  sum_size y z = omega (arith, ints)

  both : (j : ℕ) → Within m (x j *ℤ k +ℤ neg_ℤ (t *ℤ p j))
  both j = omega (
    arith,
    sum_size (x j *ℤ k) (neg_ℤ (t *ℤ p j)),
    opposite_size (t *ℤ p j),
    unsigned_abs-mul (x j) k,
    unsigned_abs-mul t (p j),
    both_sizes (nat_abs (x j)) (nat_abs (p j)) (nat_abs k) b (nat_abs t) r (nat_abs m) (hx j) (hp j) fits,
  )

  cell_is : (j : ℕ) → over (x j) d ≡ over (x j *ℤ k) (d *ℤ k)
  cell_is j = scaled_cell (x j) f d (p j) e k t hd he hk c

  taken_is : (j : ℕ) → neg (mul (over f d) (over (p j) e)) ≡ over (neg_ℤ (t *ℤ p j)) (d *ℤ k)
  taken_is j = taken (x j) f d (p j) e k t hd he hk c

  product_none : (j : ℕ) → is_too_wide m Product (over f d) (over (p j) e) ≡ false
  product_none j = ap not (ap (fraction_fits m) (mul_over f d (p j) e k t hd he hk c)
      ∙ over_fits m (t *ℤ p j) (d *ℤ k) hdk (right j) under)

  difference_none : (j : ℕ) → is_too_wide m Difference (over (x j) d) (mul (over f d) (over (p j) e)) ≡ false
  difference_none j = ap not ((λ i. sum_fits m (cell_is j i) (taken_is j i))
      ∙ sum_fits_over m (x j *ℤ k) (neg_ℤ (t *ℤ p j)) (d *ℤ k) hdk under (left j)
      (omega (arith, opposite_size (t *ℤ p j), right j)) (both j))

  -- no written product and no written difference of the row is too wide
  pub step_none : (row j : ℕ) → reduce_item ordered_fractions (is_too_wide m) (λ j. over (x j) d) (λ j. over (p j) e)
      (over f d) row j ≡ None
  step_none row j = λ i. or_else (only_if (product_none j i) (record { row = row; column = j; step = Multiply }))
      (only_if (difference_none j i) (record { row = row; column = j; step = Subtract }))

  -- and its cells fit
  pub step_fits : (j : ℕ) → fraction_fits m (over (x j *ℤ k -ℤ t *ℤ p j) (d *ℤ k)) ≡ true
  step_fits j = over_fits m (x j *ℤ k -ℤ t *ℤ p j) (d *ℤ k) hdk (both j) under

-- the pivot row, divided by its number q in the pivot's column: a and g are its numbers and q with the sign of q turned
module _ (m : ℤ) (x a : ℕ → ℤ) (d q g : ℤ) (b : ℕ) (hd : pos 0 ≺ d) (hg : pos 0 ≺ g) (some : q ≢ pos 0)
    (cross : (j : ℕ) → a j *ℤ q ≡ x j *ℤ g) (ha : (j : ℕ) → nat_abs (a j) ≤ b) (gb : nat_abs g ≤ b)
    (fits : b ≤ nat_abs m) where
  -- it is the row that is written
  pub division_is : (j : ℕ) → over (a j) g ≡ divided ordered_fractions (λ j. over (x j) d) (over q d) j
  division_is j = sym (quotient_over (x j) q d (a j) g hd hg some (cross j))

  -- and its cells fit
  pub division_fits : (j : ℕ) → fraction_fits m (over (a j) g) ≡ true
  division_fits j = over_fits m (a j) g hg (omega (arith, ha j, fits)) (omega (arith, gb, fits))

  -- and no written quotient is too wide
  pub division_none : (row j : ℕ) → divide_item ordered_fractions (is_too_wide m) (λ j. over (x j) d) (over q d) row j
      ≡ None
  division_none row j = ap (λ b. only_if b (record { row = row; column = j; step = Divide }))
      (ap not (ap (fraction_fits m) (sym (division_is j)) ∙ division_fits j))
