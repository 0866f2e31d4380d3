-- A commutative ring: numbers with sum, product and opposite, and the laws that all of algebra here needs of
-- them.
-- Whole numbers and fractions are instances.
use mathlib.Core.Path.{◌≡◌}
use lib.IntN.{ℤ, pos, negsuc, ◌+ℤ◌, ◌*ℤ◌}

-- numbers that are added, multiplied and negated by these laws; each whole number stands for one of them
pub record Ring : Type 1 where
  pub C : Type 0
  pub of : ℤ → C
  pub add : C → C → C
  pub mul : C → C → C
  pub neg : C → C
  pub add_assoc : (a b c : C) → add (add a b) c ≡ add a (add b c)
  pub add_comm : (a b : C) → add a b ≡ add b a
  pub zero_add : (a : C) → add (of (pos 0)) a ≡ a
  pub mul_assoc : (a b c : C) → mul (mul a b) c ≡ mul a (mul b c)
  pub mul_comm : (a b : C) → mul a b ≡ mul b a
  pub one_mul : (a : C) → mul (of (pos 1)) a ≡ a
  pub zero_mul : (a : C) → mul (of (pos 0)) a ≡ of (pos 0)
  pub add_mul : (a b c : C) → mul (add a b) c ≡ add (mul a c) (mul b c)
  pub neg_is : (a : C) → neg a ≡ mul (of (negsuc 0)) a
  pub of_add : (k l : ℤ) → of (k +ℤ l) ≡ add (of k) (of l)
  pub of_mul : (k l : ℤ) → of (k *ℤ l) ≡ mul (of k) (of l)
