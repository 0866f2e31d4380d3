-- Indices by twos and by threes, as columns and rows are numbered: quotients, remainders and sums.
use Rattle.std.proofs.Common.{◌≡◌, refl, ap, ◌∙◌, ℕ, zero, suc, ◌+◌, ◌*◌, ◌/◌, ◌%◌, arith}
use lib.IntN.{ℤ, ◌+ℤ◌}
use Rattle.stack_algebra.specs.Sums.{sum_to}
use Rattle.stack_algebra.proofs.Integers.{sums}

-- quotient and remainder of each of a pair
pub pair_first : (k : ℕ) → ((2 * k) / 2 ≡ k) × ((2 * k) % 2 ≡ 0)
pair_first k = (omega arith, omega arith)

pub pair_second : (k : ℕ) → ((2 * k + 1) / 2 ≡ k) × ((2 * k + 1) % 2 ≡ 1)
pair_second k = (omega arith, omega arith)

-- quotient and remainder of each of three
pub three_first : (b : ℕ) → ((3 * b) / 3 ≡ b) × ((3 * b) % 3 ≡ 0)
three_first b = (omega arith, omega arith)

pub three_second : (b : ℕ) → ((3 * b + 1) / 3 ≡ b) × ((3 * b + 1) % 3 ≡ 1)
three_second b = (omega arith, omega arith)

pub three_third : (b : ℕ) → ((3 * b + 2) / 3 ≡ b) × ((3 * b + 2) % 3 ≡ 2)
three_third b = (omega arith, omega arith)

-- a sum taken pair by pair
pub sum_pairs : (n : ℕ) (f : ℕ → ℤ) → sum_to (2 * n) f ≡ sum_to n (λ k. f (2 * k) +ℤ f (2 * k + 1))
sum_pairs zero f = refl
sum_pairs (suc n) f = ap (λ k. sum_to k f) twice ∙ (λ i. sum_pairs n f i +ℤ f (2 * n) +ℤ f (next i))
    ∙ gathered (sum_to n (λ k. f (2 * k) +ℤ f (2 * k + 1))) (f (2 * n)) (f (2 * n + 1))
  where
    twice : 2 * suc n ≡ suc (suc (2 * n))
    twice = omega arith

    next : suc (2 * n) ≡ 2 * n + 1
    next = omega arith

    gathered : (a b c : ℤ) → a +ℤ b +ℤ c ≡ a +ℤ (b +ℤ c)
    gathered a b c = omega (arith, sums)

-- a sum taken three by three
pub sum_threes : (n : ℕ) (f : ℕ → ℤ) →
    sum_to (3 * n) f ≡ sum_to n (λ b. f (3 * b) +ℤ f (3 * b + 1) +ℤ f (3 * b + 2))
sum_threes zero f = refl
sum_threes (suc n) f = ap (λ k. sum_to k f) thrice
    ∙ (λ i. sum_threes n f i +ℤ f (3 * n) +ℤ f (next i) +ℤ f (last i))
    ∙ gathered (sum_to n (λ b. f (3 * b) +ℤ f (3 * b + 1) +ℤ f (3 * b + 2))) (f (3 * n)) (f (3 * n + 1))
    (f (3 * n + 2))
  where
    thrice : 3 * suc n ≡ suc (suc (suc (3 * n)))
    thrice = omega arith

    next : suc (3 * n) ≡ 3 * n + 1
    next = omega arith

    last : suc (suc (3 * n)) ≡ 3 * n + 2
    last = omega arith

    gathered : (a b c d : ℤ) → a +ℤ b +ℤ c +ℤ d ≡ a +ℤ (b +ℤ c +ℤ d)
    gathered a b c d = omega (arith, sums)
