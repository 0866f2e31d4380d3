-- An ordered field: a commutative ring with signs and inverses. All that a table needs of its cells.
use mathlib.Core.Path.{◌≡◌}
use mathlib.Core.Logic.{◌≢◌}
use Prim.Native.Nat.{zero, suc}
use lib.IntN.{ℤ, pos, negsuc}
use Rattle.stack_algebra.specs.Ring.{Ring}

-- below 0, 0 itself, or above 0
pub data Sign : Type 0 where
  minus : Sign
  nought : Sign
  plus : Sign

-- the sign of the negated number
abbrev pub opposite : Sign → Sign
opposite minus = plus
opposite nought = nought
opposite plus = minus

-- the sign of a product
abbrev pub product_sign : Sign → Sign → Sign
product_sign minus t = opposite t
product_sign nought t = nought
product_sign plus t = t

-- the sign of a whole number
abbrev pub sign_of : ℤ → Sign
sign_of (pos zero) = nought
sign_of (pos (suc n)) = plus
sign_of (negsuc n) = minus

-- each number has one of the three signs, only 0 has the sign of 0, and every other number has an inverse
pub record Ordered : Type 1 where
  pub ring : Ring
  -- the ring's numbers, operations and laws by their own names
  pub open ring use *
  pub sign : ring.C → Sign
  pub inv : ring.C → ring.C
  pub zero_by_sign : (x : ring.C) → sign x ≡ nought → x ≡ ring.of (pos 0)
  pub sign-zero : sign (ring.of (pos 0)) ≡ nought
  pub sign-one : sign (ring.of (pos 1)) ≡ plus
  pub sign-neg : (x : ring.C) → sign (ring.neg x) ≡ opposite (sign x)
  pub sign-mul : (x y : ring.C) → sign (ring.mul x y) ≡ product_sign (sign x) (sign y)
  pub nonneg-add : (x y : ring.C) → sign x ≢ minus → sign y ≢ minus → sign (ring.add x y) ≢ minus
  pub inv-mul : (x : ring.C) → sign x ≢ nought → ring.mul (inv x) x ≡ ring.of (pos 1)
