-- Fractions that are not negative, and the right sides of a table after a pivot.
use mathlib.Core.Path.{◌≡◌}
use native.Mathlib.Omega.{arith}
use lib.IntN.{ℤ, pos, ◌+ℤ◌, ◌*ℤ◌}
use Rattle.stack_algebra.proofs.Integers.{expand, sums}
use Rattle.stack_algebra.proofs.Order.{◌≼◌, ◌≺◌, mul_nonneg, nonneg-cancel}
use Rattle.stack_algebra.proofs.Ring.{num}
use Rattle.stack_algebra.specs.Fraction.{Fraction}
use Rattle.stack_algebra.proofs.Fractions.{IsOver, is_self, add, add-is, den_pos}

pub record NonNeg (x : Fraction) : Type 0 where
  pub num : pos 0 ≼ x.num

nonneg_cross : (x d n p : ℤ) → pos 0 ≺ d → pos 0 ≺ p → x *ℤ p ≡ n *ℤ d → pos 0 ≼ n → pos 0 ≼ x
nonneg_cross x d n p hd hp e h = let k = mul_nonneg n d h (omega (arith, sums)) in
    nonneg-cancel p x hp (simp expand (omega (arith, sums, simp expand at e, k)))

pub nonneg_is : (x : Fraction) (n p : ℤ) → IsOver x n p → pos 0 ≼ n → NonNeg x
nonneg_is x n p i h = record { num = nonneg_cross x.num (pos x.den) n p (den_pos x) i.positive i.cross h }

nonneg_sum : (a b c d : ℤ) → pos 0 ≺ b → pos 0 ≺ d → pos 0 ≼ a → pos 0 ≼ c → pos 0 ≼ a *ℤ d +ℤ c *ℤ b
nonneg_sum a b c d hb hd ha hc = omega
    (arith, sums, mul_nonneg a d ha (omega (arith, sums)), mul_nonneg c b hc (omega (arith, sums)))

pub nonneg_add : (x y : Fraction) → NonNeg x → NonNeg y → NonNeg (add x y)
nonneg_add x y h k = nonneg_is (add x y) _ _ (add-is x y _ _ _ _ (is_self x) (is_self y))
    (nonneg_sum x.num (pos x.den) y.num (pos y.den) (den_pos x) (den_pos y) h.num k.num)
