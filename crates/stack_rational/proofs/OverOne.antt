-- A whole number, over 1.
use Rattle.std.proofs.Common.{◌≡◌, ap, ◌∙◌, ◌<◌, arith, ℤ, pos, nat_abs}
use Rattle.stack_rational.proofs.Common.{ints, gcd, of, over, of-over, IsStored, Within}
use Rattle.stack_algebra.proofs.CommonDivisor.{gcd-unit}

pub whole-stored : (m n k d : ℤ) → Within m k × (n ≡ k) → d ≡ pos 1 → 0 < nat_abs m → IsStored m n d
whole-stored m n k d h e p = record {
  lowest = record {
    positive = omega (arith, ints, e);
    lowest = ap (gcd (nat_abs n)) (ap nat_abs e)
        ∙ gcd-unit (nat_abs n);
  };
  num = omega (arith, h.0, ap nat_abs h.1);
  den = omega (arith, ap nat_abs e, p);
}

pub whole-is : (n k d : ℤ) → n ≡ k → d ≡ pos 1 → over n d ≡ of k
whole-is n k d h e = (λ i. over (h i) (e i)) ∙ of-over k
