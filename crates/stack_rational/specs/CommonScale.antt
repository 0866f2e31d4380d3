-- The common scale of a list of fractions: the least common multiple of their denominators.
use Rattle.std.specs.Prelude.{◌≡◌, ℤ, pos, ◌*ℤ◌, ℕ, ◌+◌, ◌*◌, ◌/◌, ◌<◌, ◌≤◌, List, [], ◌∷◌, length, take}
use Rattle.std.specs.List.{AllByRecursion}
use Prim.Native.Nat.{◌∣◌}
use Rattle.stack_whole.specs.Whole.{greatest_number}
use Rattle.stack_algebra.specs.Gcd.{gcd}
use Rattle.stack_algebra.specs.Fraction.{Fraction}
use Rattle.stack_algebra.proofs.Fractions.{mul, of}

-- the least common multiple of two numbers
abbrev pub common_multiple : ℕ → ℕ → ℕ
common_multiple a b = a / gcd a b * b

-- the least common multiple of all denominators; 1 for the empty list
unfoldable pub scale_of : List Fraction → ℕ
scale_of [] = 1
scale_of (x ∷ xs) = common_multiple x.den (scale_of xs)

-- a number times a scale that its denominator divides
abbrev pub times_scale : ℕ → Fraction → ℤ
times_scale S x = x.num *ℤ pos (S / x.den)

-- item i is the first at which the running multiple, that of the items up to it, is too wide
pub record IsFirstTooWide (xs : List Fraction) (i : ℕ) : Type 0 where
  pub below : i < length xs
  pub is_too_wide : greatest_number < scale_of (take (i + 1) xs)
  pub fits_before : (k : ℕ) → k ≤ i → scale_of (take k xs) ≤ greatest_number

-- n is the least common multiple of the denominators: each of them divides it, and it divides each number that they all
-- divide
pub record IsLeastMultiple (xs : List Fraction) (n : ℕ) : Type 0 where
  pub common : AllByRecursion (λ x. x.den ∣ n) xs
  pub least : (m : ℕ) → AllByRecursion (λ x. x.den ∣ m) xs → n ∣ m

-- a number times a scale that its denominator divides is that whole number
abbrev pub TimesScaleIsWhole : Type 0
TimesScaleIsWhole = (S : ℕ) (x : Fraction) → x.den ∣ S → mul (of (pos S)) x ≡ of (times_scale S x)

-- the scale of a list is the least common multiple of its denominators
abbrev pub ScaleIsLeastMultiple : Type 0
ScaleIsLeastMultiple = (xs : List Fraction) → IsLeastMultiple xs (scale_of xs)
