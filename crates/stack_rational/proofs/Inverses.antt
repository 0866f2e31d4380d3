-- The parts of a number with the other sign, and of one by a number.
use Rattle.std.proofs.Common.{arith, Bool, true, false, int_lt, ◌≡◌, refl, sym, ap, ◌∙◌, ℕ, zero, suc, ◌<◌, ℤ, pos}
use Rattle.std.proofs.Common.{negsuc, nat_abs, neg_ℤ, ◌*ℤ◌}
use Rattle.stack_rational.proofs.Common.{ints, ◌≼◌, ◌≺◌, gcd, Fraction, neg, same_values, inv, over, over-is, IsStored}
use Rattle.stack_rational.proofs.Common.{signed, gcd-swap, neg_own, abs_signed}
use Rattle.stack_algebra.proofs.FractionField.{inv-is}
use Rattle.stack_rational.specs.Stored.{Fits}
use Rattle.stack_rational.proofs.Crosswise.{stored-num, stored-den}
use Rattle.stack_rational.proofs.ByWholeParts.{yes-less, no-less}

pub negated-is : (m a b n : ℤ) (x : Fraction) → IsStored m a b → over a b ≡ x → n ≡ neg_ℤ a → over n b ≡ neg x
negated-is m a b n x s e en = same_values _ _ _ _ _ _ (over-is n b s.lowest.positive) (neg_own x)
    (λ i. (en ∙ ap neg_ℤ (stored-num m a b x s e)) i *ℤ sym (stored-den m a b x s e) i)

some_size : (z : ℤ) → ¬ (z ≡ pos 0) → 0 < nat_abs z
some_size (pos zero) h = absurd (h refl)
some_size (pos (suc n)) h = omega arith
some_size (negsuc n) h = omega (arith, ints)

-- one by x, from a numerator with its sign and a positive denominator
pub inverse-stored : (m n d : ℤ) (x : Fraction) → Fits m x → ¬ (x.num ≡ pos 0) → n ≡ signed x.num x.den → d
    ≡ pos (nat_abs x.num) → IsStored m n d
inverse-stored m n d x f h en ed = record {
  lowest = record {
    positive = omega (arith, ints, some_size x.num h, ed);
    lowest = (λ i. gcd (nat_abs (en i)) (nat_abs (ed i)))
        ∙ ap (λ k. gcd k (nat_abs x.num)) (abs_signed x.num x.den)
        ∙ gcd-swap x.den (nat_abs x.num) ∙ x.lowest;
  };
  num = omega (arith, ap nat_abs en, abs_signed x.num x.den, f.den);
  den = omega (arith, ap nat_abs ed, f.num);
}

pub inverse-is : (n d : ℤ) (x : Fraction) → ¬ (x.num ≡ pos 0) → n ≡ signed x.num x.den → d
    ≡ pos (nat_abs x.num) → over n d ≡ inv x
inverse-is n d x h en ed = same_values _ _ n d _ _ (over-is n d (omega (arith, ints, some_size x.num h, ed)))
    (inv-is x (some_size x.num h)) (λ i. en i *ℤ sym ed i)

-- the parts of the inverse by the sign: below 0 both change theirs
pub parts-below : (m a b n d : ℤ) (x : Fraction) (t : Bool) → IsStored m a b → over a b ≡ x →
    t ≡ int_lt a (pos 0) → t ≡ true → n ≡ neg_ℤ b → d ≡ neg_ℤ a →
    (n ≡ signed x.num x.den) × (d ≡ pos (nat_abs x.num))
parts-below m a b n d x t s e et on en ed = (
  en ∙ ap neg_ℤ (stored-den m a b x s e) ∙ sym (sign a x.den (yes-less a (pos 0) t et on))
      ∙ ap (λ z. signed z x.den) (stored-num m a b x s e),
  ed ∙ sym (size a (yes-less a (pos 0) t et on)) ∙ ap (λ (z : ℤ). pos (nat_abs z)) (stored-num m a b x s e),
)
  where
    sign : (a : ℤ) (k : ℕ) → a ≺ pos 0 → signed a k ≡ neg_ℤ (pos k)
    sign (pos a) k h = absurd (omega (arith, ints))
    sign (negsuc a) k h = refl

    size : (a : ℤ) → a ≺ pos 0 → pos (nat_abs a) ≡ neg_ℤ a
    size (pos a) h = absurd (omega (arith, ints))
    size (negsuc a) h = refl

pub parts-above : (m a b : ℤ) (x : Fraction) (t : Bool) → IsStored m a b → over a b ≡ x →
    t ≡ int_lt a (pos 0) → t ≡ false → (b ≡ signed x.num x.den) × (a ≡ pos (nat_abs x.num))
parts-above m a b x t s e et off = (
  stored-den m a b x s e ∙ sym (sign a x.den (no-less a (pos 0) t et off))
      ∙ ap (λ z. signed z x.den) (stored-num m a b x s e),
  sym (size a (no-less a (pos 0) t et off)) ∙ ap (λ (z : ℤ). pos (nat_abs z)) (stored-num m a b x s e),
)
  where
    sign : (a : ℤ) (k : ℕ) → pos 0 ≼ a → signed a k ≡ pos k
    sign (pos a) k h = refl
    sign (negsuc a) k h = absurd (omega (arith, ints))

    size : (a : ℤ) → pos 0 ≼ a → pos (nat_abs a) ≡ a
    size (pos a) h = refl
    size (negsuc a) h = absurd (omega (arith, ints))
