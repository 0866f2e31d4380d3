-- Signs and ratios of numbers in rows: the denominators don't count.
use Rattle.std.proofs.Common.{◌≡◌, ◌≢◌, refl, ap, ◌∙◌, arith, ℤ, pos, neg_ℤ, ◌+ℤ◌, ◌-ℤ◌, ◌*ℤ◌}
use Rattle.stack_rational.proofs.Common.{ints, sign_of, Fraction, less, ◌≺◌, add, mul, add-is}
use Rattle.stack_rational.proofs.Common.{inv, over, over-is, ordered_fractions, sign_is}
use Rattle.stack_algebra.proofs.Integers.{neg_mul}
use Rattle.stack_rows.proofs.OverOneDenominator.{neg_over, quotient_over}

-- the sign of a cell is that of its number
pub cell_sign : (n d : ℤ) → pos 0 ≺ d → sign_of (over n d).num ≡ sign_of n
cell_sign n d h = sign_is _ n d (over-is n d h)

-- the sign of a difference of two ratios
pub ratio_sign : (a b c d : ℤ) → pos 0 ≺ b → pos 0 ≺ d →
    sign_of (less ordered_fractions (over a b) (over c d)).num ≡ sign_of (a *ℤ d -ℤ c *ℤ b)
ratio_sign a b c d hb hd = ap (λ (y : Fraction). sign_of (add (over a b) y).num) (neg_over c d hd)
    ∙ sign_is _ _ _ (add-is _ _ a b (neg_ℤ c) d (over-is a b hb) (over-is (neg_ℤ c) d hd))
    ∙ ap (λ z. sign_of (a *ℤ d +ℤ z)) (neg_mul c b)

-- a positive number isn't 0
pub positive_not : (z : ℤ) → pos 0 ≺ z → z ≢ pos 0
positive_not z h e = absurd (omega (arith, ints, h, e))

-- a ratio of two cells of a row is that of their numbers
pub ratio_over : (a p d : ℤ) → pos 0 ≺ d → pos 0 ≺ p → mul (inv (over p d)) (over a d) ≡ over a p
ratio_over a p d hd hp = quotient_over a p d a p hd hp (positive_not p hp) refl
