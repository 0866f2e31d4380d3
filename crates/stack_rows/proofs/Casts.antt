-- What a number is after its casts between 64 and 128 bits.
use Rattle.std.proofs.Common.{ℕ, ◌+◌, ◌*◌, ◌≤◌, mul-le-mul, ◌-◌, ◌^◌, arith, ℤ, pos, nat_abs, ◌*ℤ◌, ◌-ℤ◌}
use Rattle.std.proofs.Common.{SFits, w64}
use Rattle.stack_rational.proofs.Common.{ints, unsigned_abs-mul, signed-keeps, w128}
use Rattle.stack_rows.specs.RowForm.{AreSmall, AreFit}

-- the step of lesser numbers is small too
pub lesser_small : (k t : ℤ) {n o a b : ℕ} → a ≤ n → b ≤ o → AreSmall k t n o → AreSmall k t a b
lesser_small k t {n = n} {o = o} {a = a} {b = b} h l s = record {
  words = record { own = omega (arith, h, s.words.own); other = omega (arith, l, s.words.other) };
  sum = let u : a * nat_abs k ≤ n * nat_abs k = mul-le-mul h (omega arith) in
      let v : nat_abs t * b ≤ nat_abs t * o = mul-le-mul (omega arith) l in
      omega (arith, u, v, s.sum);
}

-- and fits if theirs does
pub lesser_fit : (k t : ℤ) {n o a b : ℕ} → a ≤ n → b ≤ o → AreFit k t n o → AreFit k t a b
lesser_fit k t {n = n} {o = o} {a = a} {b = b} h l s = record {
  sum = let u : a * nat_abs k ≤ n * nat_abs k = mul-le-mul h (omega arith) in
      let v : nat_abs t * b ≤ nat_abs t * o = mul-le-mul (omega arith) l in
      omega (arith, u, v, s.sum);
}

-- the step of small numbers
module _ (a b k t : ℤ) (small : AreSmall k t (nat_abs a) (nat_abs b)) where
  pub left : SFits w64 (a *ℤ k)
  left = signed-keeps w64 (a *ℤ k) (omega (arith, unsigned_abs-mul a k, small.sum))

  pub right : SFits w64 (t *ℤ b)
  right = signed-keeps w64 (t *ℤ b) (omega (arith, unsigned_abs-mul t b, small.sum))

  -- is a word
  pub small_step_fits : SFits w64 (a *ℤ k -ℤ t *ℤ b)
  small_step_fits = signed-keeps w64 (a *ℤ k -ℤ t *ℤ b)
      (omega (arith, unsigned_abs-mul a k, unsigned_abs-mul t b, small.sum, size (a *ℤ k) (t *ℤ b)))
    where
      size : (l r : ℤ) → nat_abs (l -ℤ r) ≤ nat_abs l + nat_abs r
      size l r = omega (arith, ints)

-- and so is that of a number that isn't multiplied
pub one_step_fits : (a b t : ℤ) → AreSmall (pos 1) t (nat_abs a) (nat_abs b) → SFits w64 (a -ℤ t *ℤ b)
one_step_fits a b t small = signed-keeps w64 (a -ℤ t *ℤ b)
    (omega (arith, unsigned_abs-mul t b, small.sum, size a (t *ℤ b)))
  where
    size : (l r : ℤ) → nat_abs (l -ℤ r) ≤ nat_abs l + nat_abs r
    size l r = omega (arith, ints)

-- what a step makes of two numbers, where it fits
module _ (a b k t : ℤ) (fit : AreFit k t (nat_abs a) (nat_abs b)) where
  pub fit_left : nat_abs a * nat_abs k ≤ 2 ^ 127 - 1
  fit_left = omega (arith, fit.sum)

  pub fit_right : nat_abs b * nat_abs t ≤ 2 ^ 127 - 1
  fit_right = omega (arith, fit.sum)

  pub fit_step : SFits w128 (a *ℤ k -ℤ b *ℤ t)
  fit_step = signed-keeps w128 (a *ℤ k -ℤ b *ℤ t)
      (omega (arith, unsigned_abs-mul a k, unsigned_abs-mul b t, fit.sum, size (a *ℤ k) (b *ℤ t)))
    where
      size : (l r : ℤ) → nat_abs (l -ℤ r) ≤ nat_abs l + nat_abs r
      size l r = omega (arith, ints)
