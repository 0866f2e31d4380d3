-- A problem by index functions: what stands in each row and plain column, and on the right. 0 elsewhere.
use Rattle.std.specs.Prelude.{ℕ, Bool, true, false, cond, ℤ, pos, negsuc, neg_ℤ}
use Rattle.stack_table.specs.Table.{Shape}

-- the entries by row and column, the contact columns and then the factor's; the right side of each row
pub record Problem : Type 0 where
  pub shape : Shape
  pub entry : ℕ → ℕ → ℤ
  pub load : ℕ → ℤ

-- a number is negative
abbrev pub is_below_zero : ℤ → Bool
is_below_zero (pos n) = false
is_below_zero (negsuc n) = true

-- a row is flipped where its right side is negative
abbrev pub flipped : Problem → ℕ → Bool
flipped P i = is_below_zero (P.load i)

-- a number of a row that is flipped, or isn't
abbrev pub turned : Bool → ℤ → ℤ
turned b z = cond b (neg_ℤ z) z
