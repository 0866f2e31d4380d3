-- Fractions in lowest terms: one value for each number, so that equal numbers are the same fraction.
use mathlib.Core.Path.{◌≡◌}
use Prim.Native.Nat.{ℕ, ◌<◌, ◌/◌}
use lib.IntN.{ℤ, pos, negsuc, ◌*ℤ◌, nat_abs, neg_ℤ}
use Rattle.stack_algebra.specs.IntegerOrder.{◌≺◌}
use Rattle.stack_algebra.specs.Gcd.{gcd}

-- a numerator and a positive denominator with no common divisor
pub record Fraction : Type 0 where
  pub num : ℤ
  pub den : ℕ
  pub positive : 0 < den
  pub lowest : gcd (nat_abs num) den ≡ 1

-- x is n over d, which need not be in lowest terms
pub record IsOver (x : Fraction) (n d : ℤ) : Type 0 where
  pub positive : pos 0 ≺ d
  pub cross : x.num *ℤ d ≡ n *ℤ pos x.den

-- a number with the sign of z and the size n
abbrev pub signed : ℤ → ℕ → ℤ
signed (pos a) n = pos n
signed (negsuc a) n = neg_ℤ (pos n)

-- z over d, divided by their divisor
abbrev pub low_num : ℤ → ℕ → ℤ
low_num z d = signed z (nat_abs z / gcd (nat_abs z) d)

-- the denominator that is left: d without the divisor that it shares with z
abbrev pub low_den : ℤ → ℕ → ℕ
low_den z d = d / gcd (nat_abs z) d
