-- Whole numbers as digits: 0, or digits of which the first isn't 0. Independent of how a number is printed or
-- read.
use Rattle.std.specs.Prelude.{◌≡◌, ℕ, suc, ◌+◌, ◌-◌, ◌*◌, ◌<◌, ◌≤◌, ℤ, pos, negsuc, List, [], ◌∷◌, length}
use Rattle.std.specs.Prelude.{slice_index, ⊤}

-- every byte is one of the digits 0 to 9
abbrev pub AreDigits : List ℕ → Type 0
AreDigits [] = ⊤
AreDigits (b ∷ bs) = (48 ≤ b) × (b ≤ 57) × AreDigits bs

-- The number that digits write behind those of n.
abbrev pub value_after : ℕ → List ℕ → ℕ
value_after n [] = n
value_after n (b ∷ bs) = value_after (10 * n + (b - 48)) bs

-- The bytes are digits, at least one, and a leading 0 stands alone; they write n.
pub record IsNatural (n : ℕ) (bytes : List ℕ) : Type 0 where
  pub digits : AreDigits bytes
  pub some : 0 < length bytes
  pub lead : slice_index bytes 0 ≡ 48 → length bytes ≡ 1
  pub value : value_after 0 bytes ≡ n

-- The digits of a number, behind a - where it is negative; 0 has no -.
abbrev pub IsWritten : ℤ → List ℕ → Type 0
IsWritten (pos n) bytes = IsNatural n bytes
IsWritten (negsuc n) bytes = (digits : List ℕ) × (bytes ≡ 45 ∷ digits) × IsNatural (suc n) digits
