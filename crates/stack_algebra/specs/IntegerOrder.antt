-- The order and the size of whole numbers.
use Prim.Native.Nat.{zero, suc}
use lib.IntN.{ℤ, pos, negsuc, nat_abs}
use lib.Signed.{◌≤ℤ◌, ◌<ℤ◌}

-- the library's order binds more tightly than a sum; these bind as `≡` does
infix 4 ◌≼◌ ◌≺◌
abbrev pub ◌≼◌ : ℤ → ℤ → Type 0
a ≼ b = ◌≤ℤ◌ a b

-- a is less than b
abbrev pub ◌≺◌ : ℤ → ℤ → Type 0
a ≺ b = ◌<ℤ◌ a b

-- the size of a number, again as a whole number
abbrev pub abs : ℤ → ℤ
abs z = pos (nat_abs z)

-- 1, 0 or -1, as the number is positive, 0 or negative
abbrev pub signum : ℤ → ℤ
signum (pos zero) = pos 0
signum (pos (suc n)) = pos 1
signum (negsuc n) = negsuc 0
