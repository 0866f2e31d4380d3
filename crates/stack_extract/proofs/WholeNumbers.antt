-- Fractions times a common scale are whole numbers: signs, sums and products go over.
use Rattle.std.proofs.Common.{◌≡◌, ◌≢◌, refl, sym, ap, subst, ◌∙◌, ℕ, zero, suc, ◌<◌, Bool, true, false, arith, ℤ, pos}
use Rattle.std.proofs.Common.{negsuc, ◌*ℤ◌}
use Rattle.stack_rational.proofs.Common.{ints, ◌≼◌, ◌≺◌, minus, plus, sign_of, Fraction, expand, sums, integers}
use Rattle.stack_rational.proofs.Common.{sum_same, of, mul, ordered_fractions, sum_to, product_sign, cancel, sum_scale}
use Rattle.stack_rational.proofs.Common.{of-is, den_pos, neg_is, fractions, sign_is}
use Rattle.stack_algebra.proofs.Integers.{neg_is_mul}
use Rattle.stack_algebra.proofs.Ring.{left_comm}
use Rattle.stack_algebra.proofs.Sums.{sum}
use Rattle.stack_algebra.proofs.OrderedFractions.{is_plus, not_below}
use Rattle.stack_table.specs.Problem.{turned}
use Rattle.stack_run.specs.EndNumbers.{negated_if}

-- x times c is the whole number z
abbrev pub IsWhole : ℤ → Fraction → ℤ → Type 0
IsWhole c x z = mul (of c) x ≡ of z

-- whole numbers with equal fractions are equal
pub of_same : (a b : ℤ) → of a ≡ of b → a ≡ b
of_same a b e = cancel (pos (of b).den) a b (den_pos (of b))
    (go a b (of b).num (pos (of b).den) left (of-is b).cross)
  where
    left : (of b).num *ℤ pos 1 ≡ a *ℤ pos (of b).den
    left = subst (λ (x : Fraction). x.num *ℤ pos 1 ≡ a *ℤ pos x.den) e (of-is a).cross

    go : (a b n d : ℤ) → n *ℤ pos 1 ≡ a *ℤ d → n *ℤ pos 1 ≡ b *ℤ d → d *ℤ a ≡ d *ℤ b
    go a b n d p q = simp expand (omega (arith, sums, simp expand at p, simp expand at q))

-- the sign of a whole number's fraction
sign_of-of : (z : ℤ) → ordered_fractions.sign (of z) ≡ sign_of z
sign_of-of z = sign_is (of z) z (pos 1) (of-is z)

-- a whole number has the sign of what it is made of
same_sign : (c : ℤ) (x : Fraction) (z : ℤ) → pos 0 ≺ c → IsWhole c x z → sign_of z ≡ ordered_fractions.sign x
same_sign c x z p e = sym (sign_of-of z) ∙ ap ordered_fractions.sign (sym e)
    ∙ ordered_fractions.sign-mul (of c) x
    ∙ ap (λ s. product_sign s (ordered_fractions.sign x)) (sign_of-of c ∙ is_plus c p)

-- a whole number is no less than 0, more than 0 or less than 0 where the fraction is
pub whole_nonneg : (c : ℤ) (x : Fraction) (z : ℤ) → pos 0 ≺ c → IsWhole c x z →
    ordered_fractions.sign x ≢ minus → pos 0 ≼ z
whole_nonneg c x z p e h = not_below z (λ d. h (sym (same_sign c x z p e) ∙ d))

-- a sign of a whole number says where it lies
plus_is : (z : ℤ) → sign_of z ≡ plus → pos 0 ≺ z
plus_is (pos zero) e = absurd cc
plus_is (pos (suc n)) e = omega (arith, ints)
plus_is (negsuc n) e = absurd cc

pub whole_positive : (c : ℤ) (x : Fraction) (z : ℤ) → pos 0 ≺ c → IsWhole c x z →
    ordered_fractions.sign x ≡ plus → pos 0 ≺ z
whole_positive c x z p e h = plus_is z (same_sign c x z p e ∙ h)

minus_is : (z : ℤ) → sign_of z ≡ minus → z ≺ pos 0
minus_is (pos zero) e = absurd cc
minus_is (pos (suc n)) e = absurd cc
minus_is (negsuc n) e = omega (arith, ints)

pub whole_negative : (c : ℤ) (x : Fraction) (z : ℤ) → pos 0 ≺ c → IsWhole c x z →
    ordered_fractions.sign x ≡ minus → z ≺ pos 0
whole_negative c x z p e h = minus_is z (same_sign c x z p e ∙ h)

-- a sum of whole numbers' fractions
sum_of_wholes : (n : ℕ) (f : ℕ → ℤ) → sum fractions n (λ j. of (f j)) ≡ of (sum_to n f)
sum_of_wholes zero f = refl
sum_of_wholes (suc n) f = ap (λ z. fractions.add z (of (f n))) (sum_of_wholes n f)
    ∙ sym (fractions.of_add (sum_to n f) (f n))

-- a sum of whole multiples of fractions
pub whole_sum : (n : ℕ) (c : ℤ) (k : ℕ → ℤ) (x : ℕ → Fraction) (z : ℕ → ℤ) →
    ((j : ℕ) → j < n → IsWhole c (x j) (z j)) →
    IsWhole c (sum fractions n (λ j. mul (of (k j)) (x j))) (sum_to n (λ j. k j *ℤ z j))
whole_sum n c k x z h = sym (sum_scale fractions n (of c) (λ j. mul (of (k j)) (x j)))
    ∙ sum_same fractions n _ _ (λ j l. left_comm fractions (of c) (of (k j)) (x j) ∙ ap (mul (of (k j))) (h j l)
    ∙ sym (fractions.of_mul (k j) (z j)))
    ∙ sum_of_wholes n (λ j. k j *ℤ z j)

-- a sum of whole multiples of fractions, with the multiples behind
pub whole_dot : (n : ℕ) (c : ℤ) (k : ℕ → ℤ) (x : ℕ → Fraction) (z : ℕ → ℤ) →
    ((j : ℕ) → j < n → IsWhole c (x j) (z j)) →
    IsWhole c (sum fractions n (λ j. mul (x j) (of (k j)))) (sum_to n (λ j. z j *ℤ k j))
whole_dot n c k x z h = ap (mul (of c)) (sum_same fractions n _ _ (λ j l. fractions.mul_comm (x j) (of (k j))))
    ∙ whole_sum n c k x z h ∙ ap of (sum_same integers n _ _ (λ j l. integers.mul_comm (k j) (z j)))

-- the sign of a flipped row
pub whole_turned : (c : ℤ) (b : Bool) (x : Fraction) (z : ℤ) → IsWhole c x z →
    IsWhole c (negated_if ordered_fractions b x) (turned b z)
whole_turned c true x z e = ap (mul (of c)) (neg_is x) ∙ left_comm fractions (of c) (of (negsuc 0)) x
    ∙ ap (mul (of (negsuc 0))) e ∙ sym (fractions.of_mul (negsuc 0) z) ∙ ap of (sym (neg_is_mul z))
whole_turned c false x z e = e
