-- Divisors of odd numbers, and the greatest common divisor with the factors of 2 taken out.
use Rattle.std.proofs.Common.{◌≡◌, refl, sym, ap, subst, subst₂, ◌∙◌, ℕ, zero, suc, ◌+◌, ◌-◌, ◌*◌, ◌/◌, ◌%◌, ◌^◌, ◌<◌}
use Rattle.std.proofs.Common.{◌≤◌, ◌⊎◌, inl, inr, min, mod-eq_of_lt, arith, pow-add}
use Rattle.stack_rational.proofs.Common.{◌∣◌, dvd_trans, dec_le, dec_lt, IsGcd, gcd, gcd-left, gcd-right, dvd_refl}
use Rattle.stack_rational.proofs.Common.{dvd-one, dvd-mul_right, gcd-is, gcd-product}
use native.Mathlib.Nat.{dvd-mul_right_of_dvd, dvd-add, dvd-add_iff_right, mod-eq-zero_of_dvd, le_of_dvd}
use native.Mathlib.Nat.{mul-dvd-mul_right, mod-add-div, eq-zero_of_zero-dvd}
use Rattle.std.proofs.Math.Nat.{pow-suc, pow-succ', div-div-eq-div-mul}
use lib.Count.{count_trailing_zeros}
use mir.Val.{bits}
use Rattle.std.specs.Int.{Width, w8, w16, w32, w64, w128, abs_diff, bit_at, trailing_zeros}
use Rattle.std.proofs.lemmas.Nat.Bits.{bit_at-trailing_zeros}
use Rattle.std.proofs.lemmas.Nat.Gcd.{IsGcd-swap, same_from_IsGcd}
use Rattle.stack_algebra.proofs.CommonDivisor.{gcd-scaled, dvd_of_gcd-one}

-- a divisor of an odd number is odd
odd_divisor : (d n : ℕ) → n % 2 ≡ 1 → d ∣ n → d % 2 ≡ 1
odd_divisor d n o h = go (d % 2) refl (below d)
  where
    below : (d : ℕ) → d % 2 < 2
    below d = omega arith

    go : (r : ℕ) → d % 2 ≡ r → r < 2 → d % 2 ≡ 1
    go zero e l = absurd (omega (arith, o, mod-eq-zero_of_dvd 2 (dvd_trans 2 (even d e) h)))
      where
        even : (d : ℕ) → d % 2 ≡ 0 → 2 ∣ d
        even d e = subst (λ z. 2 ∣ z) (halves d e) (dvd-mul_right 2 (d / 2))
          where
            halves : (d : ℕ) → d % 2 ≡ 0 → 2 * (d / 2) ≡ d
            halves d e = omega (arith, mod-add-div d 2)
    go (suc zero) e l = e
    go (suc (suc r)) e l = absurd (omega arith)

-- an odd number has no divisor with 2, nor with a power of it
two_apart : (d : ℕ) → d % 2 ≡ 1 → gcd 2 d ≡ 1
two_apart d o = go (gcd 2 d) (gcd-left 2 d) (gcd-right 2 d)
  where
    go : (g : ℕ) → g ∣ 2 → g ∣ d → g ≡ 1
    go zero h k = absurd (omega (arith, mod-eq-zero_of_dvd 0 h))
    go (suc zero) h k = refl
    go (suc (suc zero)) h k = absurd (omega (arith, o, mod-eq-zero_of_dvd 2 k))
    go (suc (suc (suc g))) h k = absurd (omega (arith, le_of_dvd (omega arith) h))

powers_apart : (k d : ℕ) → d % 2 ≡ 1 → gcd (2 ^ k) d ≡ 1
powers_apart zero d o = dvd-one.0 (gcd-left 1 d)
powers_apart (suc k) d o = ap (λ z. gcd z d) (pow-succ' 2 k)
    ∙ gcd-product 2 (2 ^ k) d (two_apart d o) (powers_apart k d o)

-- factors of 2 don't count beside an odd number
without_twos : (p q k d : ℕ) → p % 2 ≡ 1 → d ∣ p → d ∣ q * 2 ^ k → d ∣ q
without_twos p q k d o h m = dvd_of_gcd-one (2 ^ k) d q (powers_apart k d (odd_divisor d p o h))
    (subst (λ z. d ∣ z) (turn q (2 ^ k)) m)
  where
    turn : (x y : ℕ) → x * y ≡ y * x
    turn x y = omega arith

-- the lesser of two odd numbers is odd
pub odd_lesser : (x z m : ℕ) → x % 2 ≡ 1 → z % 2 ≡ 1 → m ≡ min x z → m % 2 ≡ 1
odd_lesser x z m o p is = go (dec_lt x z)
  where
    go : Dec (x < z) → m % 2 ≡ 1
    go (yes l) = omega (arith, o, is, l)
    go (no l) = omega (arith, p, is, l)

-- what divides the lesser of two numbers and their difference divides both
of_difference : (x z e : ℕ) → e ∣ min x z → e ∣ abs_diff x z → (e ∣ x) × (e ∣ z)
of_difference x z e h d = go (dec_lt x z)
  where
    go : Dec (x < z) → (e ∣ x) × (e ∣ z)
    go (yes l) = (subst (λ n. e ∣ n) first h, subst (λ n. e ∣ n) both (dvd-add e h d))
      where
        first : min x z ≡ x
        first = omega (arith, l)

        both : min x z + abs_diff x z ≡ z
        both = omega (arith, l)
    go (no l) = (subst (λ n. e ∣ n) both (dvd-add e h d), subst (λ n. e ∣ n) second h)
      where
        second : min x z ≡ z
        second = omega (arith, l)

        both : min x z + abs_diff x z ≡ x
        both = omega (arith, l)

-- and the other way round
to_difference : (x z e : ℕ) → e ∣ x → e ∣ z → (e ∣ min x z) × (e ∣ abs_diff x z)
to_difference x z e h k = go (dec_lt x z)
  where
    go : Dec (x < z) → (e ∣ min x z) × (e ∣ abs_diff x z)
    go (yes l) = (subst (λ n. e ∣ n) (sym least) h, (dvd-add_iff_right e h).1 (subst (λ n. e ∣ n) (sym both) k))
      where
        least : min x z ≡ x
        least = omega (arith, l)

        both : x + abs_diff x z ≡ z
        both = omega (arith, l)
    go (no l) = (subst (λ n. e ∣ n) (sym least) k, (dvd-add_iff_right e k).1 (subst (λ n. e ∣ n) (sym both) h))
      where
        least : min x z ≡ z
        least = omega (arith, l)

        both : z + abs_diff x z ≡ x
        both = omega (arith, l)

-- a step of the loop: of an odd number and another without its factors of 2 the lesser and the difference are taken
pub odd_step : (x y z k m d n : ℕ) → x % 2 ≡ 1 → z * 2 ^ k ≡ y → m ≡ min x z → d ≡ abs_diff x z → IsGcd m d n
    → IsGcd x y n
odd_step x y z k m d n o e em ed is = (
  both.0,
  subst (λ t. n ∣ t) e (dvd-mul_right_of_dvd n both.1 (2 ^ k)),
  λ c h l. let parts = to_difference x z c h (without_twos x z k c o h (subst (λ t. c ∣ t) (sym e) l)) in
      is.2 c (subst (λ t. c ∣ t) (sym em) parts.0) (subst (λ t. c ∣ t) (sym ed) parts.1),
)
  where
    both : (n ∣ x) × (n ∣ z)
    both = of_difference x z n (subst (λ t. n ∣ t) em is.0) (subst (λ t. n ∣ t) ed is.1)

-- and the numbers together fall: both are positive, and the greater one isn't greater than before
pub step_falls : (x y z k m d : ℕ) → x % 2 ≡ 1 → z % 2 ≡ 1 → z * 2 ^ k ≡ y → m ≡ min x z → d ≡ abs_diff x z
    → m + d < x + y
step_falls x y z k m d o p e em ed = go (dec_lt x z)
  where
    power : (k : ℕ) → 1 ≤ 2 ^ k
    power zero = omega arith
    power (suc k) = omega (arith, power k, pow-suc 2 k)

    least : (a b : ℕ) → 1 ≤ b → a ≤ a * b
    least a zero l = absurd (omega arith)
    least a (suc b) l = omega (arith, mul-suc a b)
      where
        mul-suc : (a b : ℕ) → a * suc b ≡ a + a * b
        mul-suc a b = omega arith

    grows : z ≤ y
    grows = subst (λ t. z ≤ t) e (least z (2 ^ k) (power k))

    go : Dec (x < z) → m + d < x + y
    go (yes l) = omega (arith, o, em, ed, l, grows)
    go (no l) = omega (arith, p, em, ed, l, grows)

-- the factors of 2 are put back, where the first number has no more of them
with_twos : (p q i j g : ℕ) → p % 2 ≡ 1 → i ≤ j → IsGcd p q g → IsGcd (p * 2 ^ i) (q * 2 ^ j) (g * 2 ^ i)
with_twos p q i j g o l is = subst (λ t. IsGcd (p * 2 ^ i) t (g * 2 ^ i)) (parted q i j l) (
  mul-dvd-mul_right g is.0 (2 ^ i),
  mul-dvd-mul_right g (dvd-mul_right_of_dvd g is.1 (2 ^ (j - i))) (2 ^ i),
  λ d h m. subst (λ t. d ∣ t * 2 ^ i) same (gcd-scaled p (q * 2 ^ (j - i)) (2 ^ i) d h m),
)
  where
    same : gcd p (q * 2 ^ (j - i)) ≡ g
    same = same_from_IsGcd p (q * 2 ^ (j - i)) _ g (gcd-is p (q * 2 ^ (j - i)))
        (is.0, dvd-mul_right_of_dvd g is.1 (2 ^ (j - i)), λ d h m. is.2 d h (without_twos p q (j - i) d o h m))

    parted : (q i j : ℕ) → i ≤ j → q * 2 ^ (j - i) * 2 ^ i ≡ q * 2 ^ j
    parted q i j l = grouped q (2 ^ (j - i)) (2 ^ i) ∙ ap (λ z. q * z) (sym (pow-add 2 (j - i) i))
        ∙ ap (λ k. q * 2 ^ k) (whole i j l)
      where
        grouped : (a b c : ℕ) → a * b * c ≡ a * (b * c)
        grouped a b c = omega arith

        whole : (i j : ℕ) → i ≤ j → j - i + i ≡ j
        whole i j l = omega arith

-- a number whose lowest k bits are 0 is a multiple of 2 ^ k
multiple_of_power : (k n : ℕ) → ((i : ℕ) → i < k → bit_at n i ≡ 0) → n / 2 ^ k * 2 ^ k ≡ n
multiple_of_power zero n h = omega arith
multiple_of_power (suc k) n h = (λ t. n / pow-suc 2 k t * pow-suc 2 k t)
    ∙ (λ t. sym (div-div-eq-div-mul n (2 ^ k) 2) t * (2 ^ k * 2))
    ∙ doubled (n / 2 ^ k) (2 ^ k) (h k (omega arith)) ∙ multiple_of_power k n (λ i l. h i (omega arith))
  where
    half : (a : ℕ) → a % 2 ≡ 0 → a / 2 * 2 ≡ a
    half a e = omega (arith, mod-add-div a 2)

    doubled : (a b : ℕ) → a % 2 ≡ 0 → a / 2 * (b * 2) ≡ a * b
    doubled a b e = omega (arith, ap (λ z. z * b) (half a e))

-- a positive number below the bound of a width is its odd part with the factors of 2
pub without_zeros : (w : Width) (n : ℕ) → 0 < n → n < 2 ^ bits w →
    n / 2 ^ trailing_zeros w n * 2 ^ trailing_zeros w n ≡ n
without_zeros w n some fits = multiple_of_power (trailing_zeros w n) n (bit_at-trailing_zeros w n some fits).2

-- 0 has no other bits than zeros
zeros_of_zero : (w : Width) → trailing_zeros w 0 ≡ bits w
unfolding count_trailing_zeros
zeros_of_zero w8 = refl
zeros_of_zero w16 = refl
zeros_of_zero w32 = refl
zeros_of_zero w64 = refl
zeros_of_zero w128 = refl

-- the factors of 2 of both numbers are put back, where those of b don't count beside the odd number p
both_twos : (p q i j k g : ℕ) → p % 2 ≡ 1 → (i ≤ j) ⊎ (q % 2 ≡ 1) → k ≡ min i j → IsGcd p (q * 2 ^ j) g →
    IsGcd (p * 2 ^ i) (q * 2 ^ j) (g * 2 ^ k)
both_twos p q i j k g o either e is = go (dec_le i j)
  where
    parts : IsGcd p q g
    parts = (is.0, without_twos p q j g o is.0 is.1, λ d h m. is.2 d h (dvd-mul_right_of_dvd d m (2 ^ j)))

    second : (i ≤ j) ⊎ (q % 2 ≡ 1) → ¬ (i ≤ j) → q % 2 ≡ 1
    second (inl l) n = absurd (n l)
    second (inr o) n = o

    go : Dec (i ≤ j) → IsGcd (p * 2 ^ i) (q * 2 ^ j) (g * 2 ^ k)
    go (yes l) = let least : i ≡ k = omega (arith, l, e) in
        subst (λ t. IsGcd (p * 2 ^ i) (q * 2 ^ j) (g * 2 ^ t)) least (with_twos p q i j g o l parts)
    go (no n) = let least : j ≡ k = omega (arith, n, e) in
        subst (λ t. IsGcd (p * 2 ^ i) (q * 2 ^ j) (g * 2 ^ t)) least (IsGcd-swap (q * 2 ^ j) (p * 2 ^ i) (g * 2 ^ j)
        (with_twos q p j i g (second either n) (omega (arith, n)) (IsGcd-swap p q g parts)))

-- a shift that loses nothing, since it gives a divisor, and both numbers are below the bound of the width
pub shifted_divisor : (w : Width) (a b g p k : ℕ) → 0 < a → a < 2 ^ bits w → b < 2 ^ bits w →
    p * 2 ^ trailing_zeros w a ≡ a → p % 2 ≡ 1 → k ≡ min (trailing_zeros w a) (trailing_zeros w b) → IsGcd p b g →
    IsGcd a b (g * 2 ^ k % 2 ^ bits w)
shifted_divisor w a b g p k ha fa fb ea o ek is = subst (λ n. IsGcd a b n) (sym (mod-eq_of_lt small)) whole
  where
    put : (q : ℕ) → q * 2 ^ trailing_zeros w b ≡ b → (trailing_zeros w a ≤ trailing_zeros w b) ⊎ (q % 2 ≡ 1) →
        IsGcd a b (g * 2 ^ k)
    put q eb either = subst₂ (λ m n. IsGcd m n (g * 2 ^ k)) ea eb
        (both_twos p q (trailing_zeros w a) (trailing_zeros w b) k g o either ek
        (subst (λ n. IsGcd p n g) (sym eb) is))

    by : Dec (0 < b) → IsGcd a b (g * 2 ^ k)
    by (yes some) = put (b / 2 ^ trailing_zeros w b) (without_zeros w b some fb)
        (inr (bit_at-trailing_zeros w b some fb).1)
    by (no n) = let none : 0 ≡ b = omega (arith, n) in
        put 0 (omega (arith, none)) (inl (omega (
          arith,
          ap (trailing_zeros w) none,
          zeros_of_zero w,
          (bit_at-trailing_zeros w a ha fa).0,
        )))

    whole : IsGcd a b (g * 2 ^ k)
    whole = by (dec_lt 0 b)

    small : g * 2 ^ k < 2 ^ bits w
    small = omega (arith, le_of_dvd ha whole.0, fa)

-- a divisor is no greater than the numbers
pub divisor_within : (a b n m : ℕ) → IsGcd a b n → a ≤ m → b ≤ m → n ≤ m
divisor_within zero zero n m is ha hb = omega (arith, eq-zero_of_zero-dvd (is.2 0 (dvd_refl 0) (dvd_refl 0)))
divisor_within zero (suc b) n m is ha hb = omega (arith, hb, le_of_dvd (omega arith) is.1)
divisor_within (suc a) b n m is ha hb = omega (arith, ha, le_of_dvd (omega arith) is.0)
