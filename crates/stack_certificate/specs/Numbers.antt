-- A number of a certificate's text and its one spelling.
use Rattle.std.specs.Prelude.{◌≡◌, ℕ, ℤ, pos, neg_ℤ, List, [], ◌∷◌, ◌==◌, if◌then◌else◌}
use Rattle.std.specs.Fmt.{signed_decimal}
use Rattle.std.specs.Str.Parse.{digits_value}
use Rattle.stack_whole.specs.Whole.{IsFitting}

-- The bytes spell the number: 0, or digits of which the first isn't 0, behind a - where it is negative. What
-- this says byte by byte stands in Digits.
abbrev pub IsNumber : ℤ → List ℕ → Type 0
IsNumber z bytes = IsFitting z × (bytes ≡ signed_decimal z)

-- The number that the bytes spell if they spell one: that of the digits, negative behind a -.
abbrev pub value_of : List ℕ → ℤ
value_of [] = pos 0
value_of (b ∷ bs) = if b == 45 then neg_ℤ (pos (digits_value 10 bs)) else pos (digits_value 10 (b ∷ bs))
