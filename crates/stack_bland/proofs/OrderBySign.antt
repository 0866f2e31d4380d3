-- The sign of a whole number as code tests it, and the order of two fractions by the sign of their difference.
use Rattle.std.proofs.Common.{◌≡◌, refl, ◌∙◌, zero, suc, arith, ℤ, pos, negsuc, ◌*ℤ◌}
use Rattle.stack_rational.proofs.Common.{ints, Fraction, sign_of, less, expand, sums, add, neg, ordered_fractions}
use Rattle.stack_rational.proofs.Common.{order_of}
use Rattle.std.specs.Ordering.{int_cmp}
use Rattle.stack_rational.proofs.WideWholes.{num_of, den_of}
use Rattle.stack_rational.proofs.ByWholeParts.{cmp-less, cmp-equal, cmp-greater}
use Rattle.stack_rational.proofs.TotalOrder.{order_laws}
use Rattle.stack_bland.specs.BySign.{by_sign}

cmp_zero : (z : ℤ) → int_cmp z (pos 0) ≡ by_sign (sign_of z)
cmp_zero (pos zero) = cmp-equal (pos 0) (pos 0) refl
cmp_zero (pos (suc n)) = cmp-greater (pos (suc n)) (pos 0) (omega (arith, ints))
cmp_zero (negsuc n) = cmp-less (negsuc n) (pos 0) (omega (arith, ints))

one_right : (z : ℤ) → z *ℤ pos 1 ≡ z
one_right z = simp expand (omega (arith, sums))

nought_left : (z : ℤ) → pos 0 *ℤ z ≡ pos 0
nought_left z = simp expand (omega (arith, sums))

pub order_sign : (x y : Fraction) → order_of x y ≡ by_sign (sign_of (less ordered_fractions x y).num)
order_sign x y = order_laws.by_difference x y
    ∙ (λ i. int_cmp ((add x (neg y)).num *ℤ pos (den_of (pos 0) i))
    (num_of (pos 0) i *ℤ pos (add x (neg y)).den))
    ∙ (λ i. int_cmp (one_right (add x (neg y)).num i) (nought_left (pos (add x (neg y)).den) i))
    ∙ cmp_zero (add x (neg y)).num
