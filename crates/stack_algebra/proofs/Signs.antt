-- Numbers that are not negative, in any ordered ring with inverses.
use Rattle.std.proofs.Common.{◌≡◌, ◌≢◌, refl, sym, ap, subst, ◌∙◌, ℕ, zero, suc, ◌<◌, arith}
use native.Mathlib.Decide.{ℕ_discrete}
use lib.IntN.{pos}
use Rattle.stack_algebra.proofs.Ring.{◌⊕◌, ◌⊖◌, ring2}
use Rattle.stack_algebra.specs.Sums.{sum}
use Rattle.stack_algebra.specs.Rows.{NonNeg}
use Rattle.stack_algebra.specs.Ordered.{Ordered, Sign, minus, nought, plus, opposite, product_sign}

module _ (F : Ordered) where
  pub nonneg_zero : NonNeg F (F.of (pos 0))
  nonneg_zero = record { fact = λ e. let z = F.sign-zero in cc }

  pub nonneg_plus : (x : F.C) → F.sign x ≡ plus → NonNeg F x
  nonneg_plus x h = record { fact = λ e. cc }

  pub nonneg_add : (x y : F.C) → NonNeg F x → NonNeg F y → NonNeg F (F.add x y)
  nonneg_add x y h k = record { fact = F.nonneg-add x y h.fact k.fact }

  both_not : (s t : Sign) → s ≢ minus → t ≢ minus → product_sign s t ≢ minus
  both_not minus t h k e = h refl
  both_not nought t h k e = cc
  both_not plus t h k e = k e

  pub nonneg_mul : (x y : F.C) → NonNeg F x → NonNeg F y → NonNeg F (F.mul x y)
  nonneg_mul x y h k = record {
    fact = λ e. both_not (F.sign x) (F.sign y) h.fact k.fact
        (sym (F.sign-mul x y) ∙ e);
  }

  opposite_not : (s : Sign) → s ≢ plus → opposite s ≢ minus
  opposite_not minus h e = cc
  opposite_not nought h e = cc
  opposite_not plus h e = h refl

  pub nonneg_neg : (x : F.C) → F.sign x ≢ plus → NonNeg F (F.neg x)
  nonneg_neg x h = record { fact = λ e. opposite_not (F.sign x) h (sym (F.sign-neg x) ∙ e) }

  pub nonneg_neg-minus : (x : F.C) → F.sign x ≡ minus → NonNeg F (F.neg x)
  nonneg_neg-minus x h = nonneg_neg x (λ e. cc)

  -- a number that is neither negative nor positive is 0
  neither : (s : Sign) → s ≢ minus → opposite s ≢ minus → s ≡ nought
  neither minus h k = absurd (h refl)
  neither nought h k = refl
  neither plus h k = absurd (k refl)

  pub zero_between : (x : F.C) → NonNeg F x → NonNeg F (F.neg x) → x ≡ F.of (pos 0)
  zero_between x h k = F.zero_by_sign x (neither (F.sign x) h.fact (λ e. k.fact (F.sign-neg x ∙ e)))

  pub nonneg_by : (x y : F.C) → x ≡ y → NonNeg F x → NonNeg F y
  nonneg_by x y e h = subst (λ z. NonNeg F z) e h

  pub nonneg_sum : (n : ℕ) (f : ℕ → F.C) → ((i : ℕ) → i < n → NonNeg F (f i)) → NonNeg F (sum F.ring n f)
  nonneg_sum zero f h = nonneg_zero
  nonneg_sum (suc n) f h = nonneg_add _ _ (nonneg_sum n f (λ i l. h i (omega arith))) (h n (omega arith))

  -- where a sum of two is 0 and neither is negative, both are 0
  zero_left : (x y : F.C) → NonNeg F x → NonNeg F y → F.add x y ≡ F.of (pos 0) → x ≡ F.of (pos 0)
  zero_left x y h k e = zero_between x h
      (nonneg_by y (F.neg x) (ring2 F.ring (λ x y. (y, (x ⊕ y) ⊖ x)) refl x y ∙ ap (λ z. F.add z (F.neg x)) e
      ∙ F.zero_add (F.neg x)) k)

  pub zero_parts : (n : ℕ) (f : ℕ → F.C) → ((i : ℕ) → i < n → NonNeg F (f i)) → sum F.ring n f
      ≡ F.of (pos 0) → (i : ℕ) → i < n → f i ≡ F.of (pos 0)
  zero_parts zero f h e i l = absurd (omega arith)
  zero_parts (suc n) f h e i l = go (ℕ_discrete i n) (zero_parts n f (λ i l. h i (omega arith)) rest)
    where
      below : NonNeg F (sum F.ring n f)
      below = nonneg_sum n f (λ i l. h i (omega arith))

      last : f n ≡ F.of (pos 0)
      last = zero_left (f n) (sum F.ring n f) (h n (omega arith)) below
          (F.add_comm (f n) (sum F.ring n f) ∙ e)

      rest : sum F.ring n f ≡ F.of (pos 0)
      rest = zero_left (sum F.ring n f) (f n) below (h n (omega arith)) e

      go : Dec (i ≡ n) → ((i : ℕ) → i < n → f i ≡ F.of (pos 0)) → f i ≡ F.of (pos 0)
      go (yes p) r = ap f p ∙ last
      go (no d) r = r i (omega arith)

  -- the inverse of a positive number is positive
  same_sign : (s t : Sign) → product_sign s t ≡ plus → t ≡ plus → s ≡ plus
  same_sign minus t e h = absurd (let k = sym e ∙ ap opposite h in cc)
  same_sign nought t e h = absurd cc
  same_sign plus t e h = refl

  pub inv-plus : (x : F.C) → F.sign x ≡ plus → F.sign (F.inv x) ≡ plus
  inv-plus x h = same_sign (F.sign (F.inv x)) (F.sign x)
      (sym (F.sign-mul (F.inv x) x) ∙ ap F.sign (F.inv-mul x (λ e. cc)) ∙ F.sign-one) h

  -- a sum with a positive part
  positive_from : (s : Sign) → s ≢ minus → (s ≡ nought → ⊥) → s ≡ plus
  positive_from minus h k = absurd (h refl)
  positive_from nought h k = absurd (k refl)
  positive_from plus h k = refl

  pub plus_add : (x y : F.C) → NonNeg F x → F.sign y ≡ plus → F.sign (F.add x y) ≡ plus
  plus_add x y h e = positive_from (F.sign (F.add x y)) (nonneg_add x y h (nonneg_plus y e)).fact
      (λ z. let p = ap F.sign (zero_left y x (nonneg_plus y e) h (F.add_comm y x ∙ F.zero_by_sign _ z))
      ∙ F.sign-zero in cc)
