-- What a sum over the least common denominator has in common with that denominator: only what both denominators had.
use Rattle.std.proofs.Common.{◌≡◌, sym, ap, subst, ◌∙◌, ◌≢◌, ℕ, ◌+◌, ◌*◌, ◌/◌, arith, ℤ, pos, nat_abs, ◌+ℤ◌, ◌*ℤ◌}
use Rattle.stack_rational.proofs.Common.{◌∣◌, mul-div_cancel', dvd_trans, ℕ_discrete, IsGcd, ints, unsigned_abs-mul}
use Rattle.stack_rational.proofs.Common.{gcd, gcd-left, gcd-right, dvd-one, dvd_refl, dvd-mul_left, gcd-product}
use Rattle.stack_rational.proofs.Common.{gcd-swap, dvd-gcd, IsLowest}
use native.Mathlib.Nat.{dvd-add, dvd-add_iff_left}
use lib.Signed.{quot_z}
use Rattle.stack_algebra.proofs.CommonDivisor.{dvd_of_gcd-one}
use Rattle.stack_rational.proofs.Steps.{div-abs}
use Rattle.stack_rational.proofs.Crosswise.{coprime-parts, quotients}

-- what divides a sum and a term divides the other term
dvd_term : (e : ℕ) (u v : ℤ) → e ∣ nat_abs (u +ℤ v) → e ∣ nat_abs v → e ∣ nat_abs u
dvd_term e u v h k = go (nat_abs u) (nat_abs (u +ℤ v)) (nat_abs v) h k (λ p q. omega (arith, ints, p, q))
    (ℕ_discrete (nat_abs u) (nat_abs (u +ℤ v) + nat_abs v)) (ℕ_discrete (nat_abs (u +ℤ v)) (nat_abs u + nat_abs v))
  where
    go : (r s t : ℕ) → e ∣ s → e ∣ t → (r ≢ s + t → s ≢ r + t → t ≡ r + s) → Dec (r ≡ s + t) → Dec (s ≡ r + t) →
        e ∣ r
    go r s t h k other (yes p) d = subst (λ n. e ∣ n) (sym p) (dvd-add e h k)
    go r s t h k other (no p) (yes q) = (dvd-add_iff_left e k).1 (subst (λ n. e ∣ n) q h)
    go r s t h k other (no p) (no q) = (dvd-add_iff_left e h).1 (subst (λ n. e ∣ n) (other p q) k)

-- a sum of a term that has no divisor with p and a multiple of p has none
apart : (u v : ℤ) (p : ℕ) → gcd (nat_abs u) p ≡ 1 → p ∣ nat_abs v → gcd (nat_abs (u +ℤ v)) p ≡ 1
apart u v p e h = dvd-one.0 (subst (λ n. g ∣ n) e (dvd-gcd (nat_abs u) p g
    (dvd_term g u v (gcd-left (nat_abs (u +ℤ v)) p) (dvd_trans g (gcd-right (nat_abs (u +ℤ v)) p) h))
    (gcd-right (nat_abs (u +ℤ v)) p)))
  where
    g : ℕ
    g = gcd (nat_abs (u +ℤ v)) p

module _ (a b c d p q : ℤ) (g : ℕ) (s : IsLowest a b) (t : IsLowest c d) (is : IsGcd (nat_abs b) (nat_abs d) g)
    (ep : p ≡ quot_z b (pos g)) (eq : q ≡ quot_z d (pos g)) where
  left : nat_abs p ≡ nat_abs b / g
  left = ap nat_abs ep ∙ div-abs b (pos g)

  right : nat_abs q ≡ nat_abs d / g
  right = ap nat_abs eq ∙ div-abs d (pos g)

  left_whole : g * nat_abs p ≡ nat_abs b
  left_whole = ap (λ n. g * n) left ∙ mul-div_cancel' g is.0

  right_whole : g * nat_abs q ≡ nat_abs d
  right_whole = ap (λ n. g * n) right ∙ mul-div_cancel' g is.1

  both : gcd (nat_abs p) (nat_abs q) ≡ 1
  both = (λ i. gcd (left i) (right i))
      ∙ quotients (nat_abs b) (nat_abs d) g (let h = t.positive in omega (arith, ints)) is

  -- a term has no divisor with what is left of its own denominator
  term_left : gcd (nat_abs (a *ℤ q)) (nat_abs p) ≡ 1
  term_left = ap (λ n. gcd n (nat_abs p)) (unsigned_abs-mul a q)
      ∙ gcd-product (nat_abs a) (nat_abs q) (nat_abs p)
      (coprime-parts (nat_abs a) (nat_abs b) (nat_abs a) (nat_abs p) (dvd_refl (nat_abs a))
      (subst (λ n. nat_abs p ∣ n) left_whole (dvd-mul_left (nat_abs p) g)) s.lowest)
      (gcd-swap (nat_abs q) (nat_abs p) ∙ both)

  term_right : gcd (nat_abs (c *ℤ p)) (nat_abs q) ≡ 1
  term_right = ap (λ n. gcd n (nat_abs q)) (unsigned_abs-mul c p)
      ∙ gcd-product (nat_abs c) (nat_abs p) (nat_abs q)
      (coprime-parts (nat_abs c) (nat_abs d) (nat_abs c) (nat_abs q) (dvd_refl (nat_abs c))
      (subst (λ n. nat_abs q ∣ n) right_whole (dvd-mul_left (nat_abs q) g)) t.lowest)
      both

  total_left : gcd (nat_abs (a *ℤ q +ℤ c *ℤ p)) (nat_abs p) ≡ 1
  total_left = apart (a *ℤ q) (c *ℤ p) (nat_abs p) term_left
      (subst (λ n. nat_abs p ∣ n) (sym (unsigned_abs-mul c p)) (dvd-mul_left (nat_abs p) (nat_abs c)))

  total_right : gcd (nat_abs (a *ℤ q +ℤ c *ℤ p)) (nat_abs q) ≡ 1
  total_right = ap (λ n. gcd n (nat_abs q)) (turned (a *ℤ q) (c *ℤ p))
      ∙ apart (c *ℤ p) (a *ℤ q) (nat_abs q) term_right
      (subst (λ n. nat_abs q ∣ n) (sym (unsigned_abs-mul a q)) (dvd-mul_left (nat_abs q) (nat_abs a)))
    where
      turned : (u v : ℤ) → nat_abs (u +ℤ v) ≡ nat_abs (v +ℤ u)
      turned u v = omega (arith, ints)

  -- what divides the sum and the least common denominator divides g
  pub shared_divides : (e : ℕ) → e ∣ nat_abs (a *ℤ q +ℤ c *ℤ p) → e ∣ nat_abs (p *ℤ d) → e ∣ g
  shared_divides e h k = dvd_of_gcd-one (nat_abs q) e g (none (nat_abs q) total_right)
      (subst (λ n. e ∣ n) (sym right_whole ∙ swapped g (nat_abs q))
      (dvd_of_gcd-one (nat_abs p) e (nat_abs d) (none (nat_abs p) total_left)
      (subst (λ n. e ∣ n) (unsigned_abs-mul p d) k)))
    where
      swapped : (x y : ℕ) → x * y ≡ y * x
      swapped x y = omega arith

      none : (n : ℕ) → gcd (nat_abs (a *ℤ q +ℤ c *ℤ p)) n ≡ 1 → gcd n e ≡ 1
      none n f = gcd-swap n e ∙ coprime-parts (nat_abs (a *ℤ q +ℤ c *ℤ p)) n e n h (dvd_refl n) f
