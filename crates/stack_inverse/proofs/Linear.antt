-- A row's numbers in the plain columns, from those in the artificial ones.
use Rattle.std.proofs.Common.{◌≡◌, sym, ap, ◌∙◌, ℕ, zero, suc, ◌<◌, ◌≤◌, ◌+◌, ◌*◌, arith, ℤ, nat_abs, ◌+ℤ◌, ◌-ℤ◌, ◌*ℤ◌}
use Rattle.stack_rational.proofs.Common.{ints, unsigned_abs-mul, expand, sums}
use Rattle.stack_inverse.specs.Columns.{combined, sizes}

-- of a row step
pub combined_step : (m : ℕ) (a p f : ℕ → ℤ) (k t : ℤ) → combined m (λ r. a r *ℤ k -ℤ t *ℤ p r) f
    ≡ combined m a f *ℤ k -ℤ t *ℤ combined m p f
combined_step zero a p f k t = simp expand (omega (arith, sums))
combined_step (suc m) a p f k t = ap (λ z. z +ℤ (a m *ℤ k -ℤ t *ℤ p m) *ℤ f m) (combined_step m a p f k t)
    ∙ turn (combined m a f) (combined m p f) (a m) (p m) (f m) k t
  where
    turn : (s u a p f k t : ℤ) → s *ℤ k -ℤ t *ℤ u +ℤ (a *ℤ k -ℤ t *ℤ p) *ℤ f ≡ (s +ℤ a *ℤ f) *ℤ k -ℤ t *ℤ (u +ℤ p *ℤ f)
    turn s u a p f k t = simp expand (omega (arith, sums))

-- the same row over another denominator
pub combined_same : (m : ℕ) (a b f : ℕ → ℤ) (d e : ℤ) → ((r : ℕ) → b r *ℤ d ≡ a r *ℤ e) →
    combined m b f *ℤ d ≡ combined m a f *ℤ e
combined_same zero a b f d e h = simp expand (omega (arith, sums))
combined_same (suc m) a b f d e h = turn (combined m b f) (b m) (f m) d
    ∙ (λ i. combined_same m a b f d e h i +ℤ h m i *ℤ f m)
    ∙ sym (turn (combined m a f) (a m) (f m) e)
  where
    turn : (s a f d : ℤ) → (s +ℤ a *ℤ f) *ℤ d ≡ s *ℤ d +ℤ a *ℤ d *ℤ f
    turn s a f d = simp expand (omega (arith, sums))

-- a bound of one product more
grow : (s x : ℤ) (a b c g u : ℕ) → nat_abs s ≤ a * c → nat_abs x ≡ b * g → b ≤ a → nat_abs (s +ℤ x) ≤ a * (c + g)
grow s x a b c g u hs hx hb = omega (arith, ints, size s x, hs, hx, more b a g hb, split a c g)
  where
    size : (s x : ℤ) → nat_abs (s +ℤ x) ≤ nat_abs s + nat_abs x
    size s x = omega (arith, ints)

    more : (b a g : ℕ) → b ≤ a → b * g ≤ a * g
    more b a zero h = omega arith
    more b a (suc g) h = omega (arith, more b a g h, h)

    split : (a c g : ℕ) → a * (c + g) ≡ a * c + a * g
    split a c g = omega arith

-- no number is greater than the greatest multiplier times the sizes of its column
pub combined_within : (m a : ℕ) (x f : ℕ → ℤ) → ((r : ℕ) → r < m → nat_abs (x r) ≤ a) →
    nat_abs (combined m x f) ≤ a * sizes m f
combined_within zero a x f h = omega arith
combined_within (suc m) a x f h = grow (combined m x f) (x m *ℤ f m) a (nat_abs (x m)) (sizes m f) (nat_abs (f m)) 0
    (combined_within m a x f (λ r l. h r (omega arith))) (unsigned_abs-mul (x m) (f m)) (h m (omega arith))
