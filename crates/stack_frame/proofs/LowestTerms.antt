-- Pairs of numbers in lowest terms, and what they are multiplied by.
use mathlib.Core.Path.{◌≡◌, refl, sym, ap, subst, ◌∙◌}
use Prim.Native.Nat.{ℕ, zero, suc, ◌*◌, ◌/◌, ◌<◌, ◌∣◌}
use native.Mathlib.Nat.{dvd_refl, dvd-mul_right_of_dvd, dvd_antisymm, dvd-one, one-mul, mul-one, mul_comm}
use native.Mathlib.Nat.{mul-div_cancel', mul-dvd-mul_left, dvd_of_mul-dvd-mul_left}
use native.Mathlib.Omega.{arith}
use lib.IntN.{ℤ, pos, negsuc, ◌*ℤ◌, neg_ℤ, nat_abs}
use lib.Signed.{quot_z}
use Rattle.std.proofs.lemmas.Int.{ints}
use Rattle.stack_algebra.specs.Gcd.{gcd}
use Rattle.stack_algebra.proofs.CommonDivisor.{gcd-left, gcd-right, dvd-gcd, gcd-scaled, gcd-swap, dvd_of_gcd-one}
use Rattle.stack_algebra.proofs.Integers.{mul_neg}
use Rattle.stack_frame.specs.Directions.{IsLowest}

-- lowest terms, by the greatest common divisor
pub gcd_of_lowest : (x y : ℤ) → IsLowest x y → gcd (nat_abs x) (nat_abs y) ≡ 1
gcd_of_lowest x y h = h _ (gcd-left (nat_abs x) (nat_abs y)) (gcd-right (nat_abs x) (nat_abs y))

pub lowest_of_gcd : (x y : ℤ) → gcd (nat_abs x) (nat_abs y) ≡ 1 → IsLowest x y
lowest_of_gcd x y e d p q = dvd-one.0 (subst (λ n. d ∣ n) e (dvd-gcd (nat_abs x) (nat_abs y) d p q))

pub abs-times : (g : ℕ) (z : ℤ) → nat_abs (pos g *ℤ z) ≡ g * nat_abs z
abs-times g (pos n) = refl
abs-times g (negsuc n) = omega (arith, ints)

-- a quotient without a rest
pub quotient-whole : (z : ℤ) (g : ℕ) → 0 < g → g ∣ nat_abs z → z ≡ pos g *ℤ quot_z z (pos g)
quotient-whole z zero p d = absurd (omega arith)
quotient-whole (pos n) (suc g) p d = ap pos (sym (mul-div_cancel' (suc g) d))
quotient-whole (negsuc n) (suc g) p d = ap (λ m. neg_ℤ (pos m)) (sym (mul-div_cancel' (suc g) d))
    ∙ sym (mul_neg (pos (suc g)) (pos (suc n / suc g)))

-- what divides the same multiple of two numbers in lowest terms divides the multiplier
pub divides-times : (g d a b : ℕ) → gcd a b ≡ 1 → d ∣ g * a → d ∣ g * b → d ∣ g
divides-times g d a b e p q = subst (λ n. d ∣ n) (ap (λ n. n * g) e ∙ one-mul g)
    (gcd-scaled a b g d (subst (λ n. d ∣ n) (mul_comm g a) p) (subst (λ n. d ∣ n) (mul_comm g b) q))

-- divided by the greatest common divisor, two numbers are in lowest terms
pub lowest-parts : (g a b : ℕ) → 0 < g → gcd (g * a) (g * b) ≡ g → gcd a b ≡ 1
lowest-parts g a b p e = dvd-one.0 (dvd_of_mul-dvd-mul_left {k = g} (gcd a b) p
    (subst (λ n. g * gcd a b ∣ n) (e ∙ sym (mul-one g)) (dvd-gcd (g * a) (g * b) (g * gcd a b)
    (mul-dvd-mul_left _ g (gcd-left a b)) (mul-dvd-mul_left _ g (gcd-right a b)))))

-- two fractions of one value in lowest terms have the same numerator
pub one-numerator : (a b c d : ℕ) → gcd a b ≡ 1 → gcd c d ≡ 1 → a * d ≡ b * c → a ≡ c
one-numerator a b c d h k e = dvd_antisymm
    (dvd_of_gcd-one b a c (gcd-swap b a ∙ h) (subst (λ n. a ∣ n) e (dvd-mul_right_of_dvd a (dvd_refl a) d)))
    (dvd_of_gcd-one d c a (gcd-swap d c ∙ k)
    (subst (λ n. c ∣ n) (mul_comm c b ∙ sym e ∙ mul_comm a d) (dvd-mul_right_of_dvd c (dvd_refl c) b)))
