-- The divisor of two numbers from that of their sizes.
use Rattle.std.proofs.Common.{◌≡◌, sym, ap, subst, ℕ, ◌≤◌, arith, ℤ, pos, nat_abs, ◌≤ℤ◌}
use Rattle.stack_rational.proofs.Common.{◌∣◌, IsGcd, Within, one-dvd, dvd_refl, ints}
use Rattle.stack_rational.proofs.OddDivisors.{divisor_within}

-- a divisor of the sizes u and v of a and b, as the value d of a type
pub none_fits : (m a b : ℤ) (u v n : ℕ) → u ≡ nat_abs a → v ≡ nat_abs b → IsGcd u v n → Within m a →
    Within m b → nat_abs (pos n) ≤ nat_abs m
none_fits m a b u v n eu ev is wa wb = divisor_within u v n (nat_abs m) is (omega (arith, eu, wa))
    (omega (arith, ev, wb))

pub some_size : (m a b d : ℤ) (u v n : ℕ) → u ≡ nat_abs a → v ≡ nat_abs b → IsGcd u v n → Within m a →
    Within m b → d ≡ pos n → Within m d
some_size m a b d u v n eu ev is wa wb e = subst (λ z. Within m z) (sym e) (none_fits m a b u v n eu ev is wa wb)

pub some_gcd : (a b d : ℤ) (u v n : ℕ) → u ≡ nat_abs a → v ≡ nat_abs b → IsGcd u v n → d ≡ pos n →
    IsGcd (nat_abs a) (nat_abs b) (nat_abs d)
some_gcd a b d u v n eu ev is e = subst (λ (t : ℕ × ℕ × ℕ). IsGcd t.0 t.1 t.2) same is
  where
    same : ◌≡◌ {A = ℕ × ℕ × ℕ} (u, v, n) (nat_abs a, nat_abs b, nat_abs d)
    same = λ i. (eu i, ev i, sym (ap nat_abs e) i)

-- 1 is the divisor of any number and 1
pub one_gcd : (a b : ℤ) → b ≡ pos 1 → IsGcd (nat_abs a) (nat_abs b) (nat_abs b)
one_gcd a b e = (subst (λ z. nat_abs z ∣ nat_abs a) (sym e) (one-dvd (nat_abs a)), dvd_refl (nat_abs b), λ d h k. k)

pub some_positive : (d : ℤ) (n : ℕ) → d ≡ pos n → pos 0 ≤ℤ d
some_positive d n e = omega (arith, ints, e)
