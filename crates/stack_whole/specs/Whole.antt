-- Whole numbers of 128 bits: a number is too wide where its size is more than 2^127 - 1, and then it is not made.
-- Here this is said once, for each number that is read, written, tested or computed.
use Rattle.std.specs.Prelude.{◌≡◌, ℕ, ◌<◌, ◌≤◌, ◌-◌, ◌^◌, ℤ, nat_abs, Bool, nat_lt, Option, Some, None, Result, Ok}
use Rattle.std.specs.Prelude.{Err, if◌then◌else◌}
use Rattle.stack_whole.specs.declared.whole.Wide.{Wide}
use Rattle.stack_whole.specs.declared.whole.Whole.{Whole}

-- the greatest size that a number may have
abbrev pub greatest_number : ℕ
greatest_number = 2 ^ 127 - 1

-- a number fits: its size is at most that
abbrev pub IsFitting : ℤ → Type 0
IsFitting z = nat_abs z < 2 ^ 127

-- whether a number fits
abbrev pub fits : ℤ → Bool
fits z = nat_lt (nat_abs z) (2 ^ 127)

-- a number is too wide: its size is more than that
abbrev pub IsTooWide : ℤ → Type 0
IsTooWide z = 2 ^ 127 ≤ nat_abs z

-- the number, where it isn't too wide
abbrev pub made : ℤ → Result Whole Wide
made z = if fits z then Ok (record { value = z }) else Err (record {})

-- a number that 128 bits hold, where there is one and it isn't too wide
abbrev pub made_or_wide : Option ℤ → Result Whole Wide
made_or_wide None = Err (record {})
made_or_wide (Some z) = made z

-- a number as it is, of which no size is asked
abbrev pub whole : ℤ → Whole
whole z = record { value = z }

-- what making a number shows
abbrev pub Makes : ℤ → Result Whole Wide → Type 0
Makes z (Ok w) = (w ≡ whole z) × IsFitting z
Makes z (Err e) = IsTooWide z
