-- The cell that a row step writes, as a number over the denominator of the step.
use Rattle.std.proofs.Common.{◌≡◌, sym, ap, ◌∙◌, ℤ, pos, neg_ℤ, ◌-ℤ◌, ◌*ℤ◌, arith}
use Rattle.stack_rational.proofs.Common.{expand, sums, ◌≺◌, mul_pos, add, mul, neg, over, ordered_fractions}
use Rattle.stack_table.specs.Spots.{reduced}
use Rattle.stack_rows.proofs.OverOneDenominator.{same_over, neg_over, add_over, mul_over}

-- a row step: f over d is the cell in the pivot's column, r over e the pivot row's
module _ (n f d r e k t : ℤ) (hd : pos 0 ≺ d) (he : pos 0 ≺ e) (hk : pos 0 ≺ k) (c : f *ℤ k ≡ t *ℤ e) where
  -- a row's cell over the denominator of the step
  pub scaled_cell : over n d ≡ over (n *ℤ k) (d *ℤ k)
  scaled_cell = same_over n d (n *ℤ k) (d *ℤ k) hd (mul_pos d k hd hk) (cross n d k)
    where
      cross : (n d k : ℤ) → n *ℤ (d *ℤ k) ≡ n *ℤ k *ℤ d
      cross n d k = simp expand (omega (arith, sums))

  -- what is taken from it
  pub taken : neg (mul (over f d) (over r e)) ≡ over (neg_ℤ (t *ℤ r)) (d *ℤ k)
  taken = ap neg (mul_over f d r e k t hd he hk c) ∙ neg_over (t *ℤ r) (d *ℤ k) (mul_pos d k hd hk)

  -- the cell that is written
  pub step_cell : over (n *ℤ k -ℤ t *ℤ r) (d *ℤ k)
      ≡ reduced ordered_fractions (λ _. over n d) (λ _. over r e) (over f d) 0
  step_cell = sym (add_over (n *ℤ k) (neg_ℤ (t *ℤ r)) (d *ℤ k) (mul_pos d k hd hk))
      ∙ (λ i. add (sym scaled_cell i) (sym taken i))
