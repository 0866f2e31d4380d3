-- Fractions in lowest terms are an ordered ring with inverses.
use Rattle.std.proofs.Common.{◌≡◌, ◌≢◌, refl, sym, ap, ◌∙◌, zero, suc, ◌<◌, arith}
use lib.IntN.{ℤ, pos, negsuc, ◌*ℤ◌, neg_ℤ, nat_abs, *ℤ_comm, zero-*ℤ}
use Rattle.std.proofs.lemmas.Int.{ints}
use Rattle.stack_algebra.proofs.Order.{◌≺◌, ◌≼◌, mul_pos}
use Rattle.stack_algebra.specs.Fraction.{Fraction}
use Rattle.stack_algebra.proofs.Fractions.{IsOver, is_self, same_values, mul-is, of-is, neg_own, fractions, den_pos}
use Rattle.stack_algebra.proofs.FractionField.{inv, inv_mul}
use Rattle.stack_algebra.proofs.FractionSigns.{nonneg_add as not_below-add}
use Rattle.stack_algebra.specs.Ordered.{Ordered, Sign, minus, nought, plus, opposite, product_sign, sign_of}

pub is_plus : (z : ℤ) → pos 0 ≺ z → sign_of z ≡ plus
is_plus (pos zero) h = absurd (omega (arith, ints))
is_plus (pos (suc n)) h = refl
is_plus (negsuc n) h = absurd (omega (arith, ints))

pub is_minus : (z : ℤ) → z ≺ pos 0 → sign_of z ≡ minus
is_minus (pos n) h = absurd (omega (arith, ints))
is_minus (negsuc n) h = refl

pub sign_of-mul : (a b : ℤ) → sign_of (a *ℤ b) ≡ product_sign (sign_of a) (sign_of b)
sign_of-mul (pos zero) b = ap sign_of (zero-*ℤ b)
sign_of-mul (pos (suc a)) (pos zero) = ap sign_of (*ℤ_comm (pos (suc a)) (pos 0) ∙ zero-*ℤ (pos (suc a)))
sign_of-mul (pos (suc a)) (pos (suc b)) = is_plus _
    (mul_pos (pos (suc a)) (pos (suc b)) (omega (arith, ints)) (omega (arith, ints)))
sign_of-mul (pos (suc a)) (negsuc b) = is_minus (pos (suc a) *ℤ negsuc b) (omega (arith, ints))
sign_of-mul (negsuc a) (pos zero) = ap sign_of (*ℤ_comm (negsuc a) (pos 0) ∙ zero-*ℤ (negsuc a))
sign_of-mul (negsuc a) (pos (suc b)) = is_minus (negsuc a *ℤ pos (suc b)) (omega (arith, ints))
sign_of-mul (negsuc a) (negsuc b) = is_plus (negsuc a *ℤ negsuc b) (omega (arith, ints))

pub sign_of-neg : (a : ℤ) → sign_of (neg_ℤ a) ≡ opposite (sign_of a)
sign_of-neg (pos zero) = refl
sign_of-neg (pos (suc a)) = refl
sign_of-neg (negsuc a) = refl

pub both-plus : (s : Sign) → product_sign s plus ≡ s
both-plus minus = refl
both-plus nought = refl
both-plus plus = refl

pub scaled : (a d : ℤ) → pos 0 ≺ d → sign_of (a *ℤ d) ≡ sign_of a
scaled a d h = sign_of-mul a d ∙ ap (product_sign (sign_of a)) (is_plus d h) ∙ both-plus (sign_of a)

pub sign_is : (x : Fraction) (n d : ℤ) → IsOver x n d → sign_of x.num ≡ sign_of n
sign_is x n d i = sym (scaled x.num d i.positive) ∙ ap sign_of i.cross ∙ scaled n (pos x.den) (den_pos x)

pub not_below : (z : ℤ) → sign_of z ≢ minus → pos 0 ≼ z
not_below (pos n) h = omega (arith, ints)
not_below (negsuc n) h = absurd (h refl)

pub below_not : (z : ℤ) → pos 0 ≼ z → sign_of z ≢ minus
below_not (pos zero) h e = cc
below_not (pos (suc n)) h e = cc
below_not (negsuc n) h e = absurd (omega (arith, ints))

pub zero_num : (z : ℤ) → sign_of z ≡ nought → z ≡ pos 0
zero_num (pos zero) e = refl
zero_num (pos (suc n)) e = absurd cc
zero_num (negsuc n) e = absurd cc

pub size_pos : (z : ℤ) → sign_of z ≢ nought → 0 < nat_abs z
size_pos (pos zero) h = absurd (h refl)
size_pos (pos (suc n)) h = omega arith
size_pos (negsuc n) h = omega (arith, ints)

abbrev pub ordered_fractions : Ordered
ordered_fractions = record {
  ring = fractions;
  sign = λ x. sign_of x.num;
  inv = inv;
  zero_by_sign = λ x e. same_values _ _ _ _ _ _ (is_self x) (of-is (pos 0))
      (ap (λ z. z *ℤ pos 1) (zero_num x.num e) ∙ sym (zero-*ℤ (pos x.den)));
  sign-zero = sign_is _ _ _ (of-is (pos 0));
  sign-one = sign_is _ _ _ (of-is (pos 1));
  sign-neg = λ x. sign_is _ _ _ (neg_own x) ∙ sign_of-neg x.num;
  sign-mul = λ x y. sign_is _ _ _ (mul-is x y _ _ _ _ (is_self x) (is_self y)) ∙ sign_of-mul x.num y.num;
  nonneg-add = λ x y h k. below_not _
      (not_below-add x y (record { num = not_below x.num h }) (record { num = not_below y.num k })).num;
  inv-mul = λ x h. inv_mul x (size_pos x.num h);
}
