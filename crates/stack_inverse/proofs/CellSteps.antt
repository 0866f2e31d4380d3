-- A row step at one cell, and over a row.
use Rattle.std.proofs.Common.{◌≡◌, sym, ap, subst, ◌∙◌, ℕ, List, Option, None, arith, ℤ, pos}
use Rattle.std.proofs.Common.{nat_abs, ◌*ℤ◌, ◌-ℤ◌, ◌-◌, [], ◌∷◌, ◌++◌, length}
use Rattle.std.proofs.lemmas.List.{length_push}
use Rattle.stack_rational.proofs.Common.{cancel, Fraction, expand, sums, ◌≺◌, mul_pos, over, over-is, ordered_fractions}
use Rattle.stack_rational.proofs.Common.{widest, is_too_wide}
use Rattle.stack_table.specs.declared.types.Step.{Step}
use Rattle.stack_table.specs.Spots.{reduced, reduce_item}
use Rattle.stack_rows.specs.RowForm.{number_at, StepFits, IsTaken, IsRight}
use Rattle.stack_rows.proofs.Sided.{side_is, without_sides}
use Rattle.stack_inverse.specs.CellSteps.{spot_at, TellsStep}
use Rattle.stack_inverse.proofs.Bounds.{step_none}
use Rattle.stack_inverse.proofs.StepCell.{step_cell}

-- where the numbers of a cell fit, nothing that is written there is too wide
pub fits_at : (n d r e f k t : ℤ) → pos 0 ≺ d → pos 0 ≺ e → pos 0 ≺ k → f *ℤ k ≡ t *ℤ e →
    StepFits widest d k t (nat_abs n) (nat_abs r) → TellsStep None (over n d) (over r e) (over f d)
fits_at n d r e f k t hd he hk c h = step_none widest (λ _. n) (λ _. r) d e f k t (nat_abs n) (nat_abs r) hd he hk c
    (λ _. omega arith) (λ _. omega arith) h.fits h.small

-- the cell that a step makes is what it makes of the numbers, over the denominator of the step
pub told_cell : (n d r e f k t : ℤ) → pos 0 ≺ d → pos 0 ≺ e → pos 0 ≺ k → f *ℤ k ≡ t *ℤ e → (z : Fraction) →
    z ≡ reduced ordered_fractions (λ _. over n d) (λ _. over r e) (over f d) 0 →
    z.num *ℤ (d *ℤ k) ≡ (n *ℤ k -ℤ t *ℤ r) *ℤ pos z.den
told_cell n d r e f k t hd he hk c z is =
    subst (λ (x : Fraction). x.num *ℤ (d *ℤ k) ≡ (n *ℤ k -ℤ t *ℤ r) *ℤ pos x.den)
    (step_cell n f d r e k t hd he hk c ∙ sym is) (over-is (n *ℤ k -ℤ t *ℤ r) (d *ℤ k) (mul_pos d k hd hk)).cross

-- what is told of the right sides of two rows is what a step makes of the right side
pub told_right : (old pivot : List ℤ) (r p w k t n e : ℤ) → length (pivot ++ p ∷ []) ≡ length (old ++ r ∷ []) →
    n *ℤ w ≡ (r *ℤ k -ℤ t *ℤ p) *ℤ e → IsRight (old ++ r ∷ []) w (pivot ++ p ∷ []) k t n e
told_right old pivot r p w k t n e long h =
    let last : length (old ++ r ∷ []) - 1 ≡ length old = omega (arith, length_push old r) in
    let own = side_is old r (length (old ++ r ∷ []) - 1) last in
    let other = side_is pivot p (length (old ++ r ∷ []) - 1) (last ∙ sym (without_sides old pivot r p long)) in
    h ∙ (λ i. (sym own i *ℤ k -ℤ t *ℤ sym other i) *ℤ e)

-- what is told of the numbers of a column is told of its cells
pub step_told : (x p : ℕ → ℤ) (d e : ℤ) (k : Fraction) (i j : ℕ) (o : Option Step) {number other under : ℤ} →
    number ≡ x j → other ≡ p j → under ≡ d → TellsStep o (over number under) (over other e) k →
    reduce_item ordered_fractions (is_too_wide widest) (λ j. over (x j) d) (λ j. over (p j) e) k i j ≡ spot_at i j o
step_told x p d e k i j o hn ho hu h =
    (λ z. reduce_item ordered_fractions (is_too_wide widest) (λ _. over (sym hn z) (sym hu z)) (λ _. over (sym ho z) e)
    k i j) ∙ h i j

-- factors in the same ratio make the same row
pub by_factors : (old pivot new : List ℤ) (d s e f k t after : ℤ) → pos 0 ≺ k → f *ℤ k ≡ t *ℤ e → s ≡ d →
    IsTaken old (d *ℤ k) pivot k t new after → IsTaken old (s *ℤ e) pivot e f new after
by_factors old pivot new d s e f k t after h c same x = record {
  positive = x.positive;
  number = λ r. ap (λ z. number_at new r *ℤ (z *ℤ e)) same ∙ cancel k _ _ h (turn (number_at new r) (number_at old r)
      (number_at pivot r) d e f k t after c (x.number r));
}
  where
    turn : (x y p d e f k t a : ℤ) → f *ℤ k ≡ t *ℤ e → x *ℤ (d *ℤ k) ≡ (y *ℤ k -ℤ t *ℤ p) *ℤ a →
        k *ℤ (x *ℤ (d *ℤ e)) ≡ k *ℤ ((y *ℤ e -ℤ f *ℤ p) *ℤ a)
    turn x y p d e f k t a c h = simp expand (omega (
      arith,
      sums,
      simp expand at (ap (λ z. z *ℤ e) h),
      simp expand at (ap (λ z. z *ℤ (p *ℤ a)) c),
    ))
