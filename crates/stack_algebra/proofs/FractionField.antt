-- The inverse and the order of fractions.
use mathlib.Core.Path.{◌≡◌, ap, ◌∙◌}
use Prim.Native.Nat.{ℕ, zero, suc, ◌<◌}
use native.Mathlib.Omega.{arith}
use lib.IntN.{ℤ, pos, negsuc, ◌*ℤ◌, nat_abs, *ℤ_comm}
use Rattle.std.proofs.lemmas.Int.{ints}
use Rattle.stack_algebra.specs.Fraction.{Fraction, signed}
use Rattle.stack_algebra.proofs.Fractions.{IsOver, is_self, reduce, reduce_is, same_values, mul, mul-is}
use Rattle.stack_algebra.proofs.Fractions.{of, of-is}

-- the inverse of a fraction whose numerator has the size n; 0 where n is 0
pub inv_by : (x : Fraction) (n : ℕ) → Fraction
inv_by x zero = of (pos 0)
inv_by x (suc n) = reduce (signed x.num x.den) (suc n) (omega arith)

pub inv : Fraction → Fraction
inv x = inv_by x (nat_abs x.num)

inv_by-is : (x : Fraction) (n : ℕ) → 0 < n → IsOver (inv_by x n) (signed x.num x.den) (pos n)
unfolding inv_by
inv_by-is x zero h = absurd (omega arith)
inv_by-is x (suc n) h = reduce_is (signed x.num x.den) (suc n) (omega arith)

over_itself : (z : ℤ) (d : ℕ) → signed z d *ℤ z ≡ pos (nat_abs z) *ℤ pos d
over_itself (pos a) d = *ℤ_comm (pos d) (pos a)
over_itself (negsuc a) zero = omega (arith, ints)
over_itself (negsuc a) (suc d) = *ℤ_comm (negsuc d) (negsuc a)

-- one over x, with the sign on the numerator
pub inv-is : (x : Fraction) → 0 < nat_abs x.num → IsOver (inv x) (signed x.num x.den) (pos (nat_abs x.num))
unfolding inv
inv-is x h = inv_by-is x (nat_abs x.num) h

pub inv_mul : (x : Fraction) → 0 < nat_abs x.num → mul (inv x) x ≡ of (pos 1)
unfolding inv
inv_mul x h = same_values _ _ _ _ _ _ (mul-is _ x _ _ _ _ (inv_by-is x (nat_abs x.num) h) (is_self x))
    (of-is (pos 1))
    (ap (λ t. t *ℤ pos 1) (over_itself x.num x.den) ∙ *ℤ_comm (pos (nat_abs x.num) *ℤ pos x.den) (pos 1))
