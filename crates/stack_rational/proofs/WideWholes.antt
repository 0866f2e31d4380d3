-- When a whole number is too wide: the numerator of its fraction is the number itself.
use Rattle.std.proofs.Common.{arith, true, false, not, ◌≡◌, sym, ap, subst, ◌∙◌, ℤ, pos, nat_abs, le-leb}
use Rattle.stack_rational.proofs.Common.{ints, Fraction, of, of-over, Within, is_too_wide, lt-leb, over-lowest}
use Rattle.stack_algebra.proofs.CommonDivisor.{gcd-unit}
use Rattle.stack_rational.specs.declared.exact.Op.TheVariants.{Whole}

pub num_of : (n : ℤ) → (of n).num ≡ n
num_of n = ap (λ (x : Fraction). x.num) (sym (of-over n))
    ∙ (over-lowest n (pos 1) (record { positive = omega (arith, ints); lowest = gcd-unit (nat_abs n) })).0

pub den_of : (n : ℤ) → (of n).den ≡ 1
den_of n = ap (λ (x : Fraction). x.den) (sym (of-over n))
    ∙ ap nat_abs (over-lowest n (pos 1)
    (record { positive = omega (arith, ints); lowest = gcd-unit (nat_abs n) })).1

-- k is n as the type holds it
pub whole_fits : (m n k : ℤ) → k ≡ n → Within m k → is_too_wide m Whole (of n) (of n) ≡ false
whole_fits m n k e h = ap not (le-leb (nat_abs (of n).num) (nat_abs m)
    (subst (λ z. Within m z) (e ∙ sym (num_of n)) h))

pub whole_too_wide : (m n k : ℤ) → k ≡ n → ¬ (Within m k) → is_too_wide m Whole (of n) (of n) ≡ true
whole_too_wide m n k e h = ap not (lt-leb (nat_abs (of n).num) (nat_abs m)
    (omega (arith, λ (w : Within m (of n).num). h (subst (λ z. Within m z) (num_of n ∙ sym e) w))))
