-- Counts of faults, which every contract over a device cites. A count goes up to the greatest u64 and stays there.
use Rattle.std.specs.Prelude.{◌≡◌, ℕ, ◌+◌, ◌-◌, ◌^◌, ◌≤◌, min, Bool, true, false, if◌then◌else◌, Option, ◌⊎◌}
use Rattle.std.specs.Option.{option_map}

-- The count rose in a call: it is greater after the call than before, or stands at its greatest value.
abbrev pub Rose : ℕ → ℕ → Type 0
Rose before after = min (before + 1) (2 ^ 64 - 1) ≤ after

-- One more, up to the greatest value.
abbrev pub counted : ℕ → ℕ
counted n = min (n + 1) (2 ^ 64 - 1)

-- The count after a call: one more where it failed, else as it was.
abbrev pub count_after : (failed : Bool) → ℕ → ℕ
count_after failed n = if failed then counted n else n

-- The count of failed calls after one more call, if it is told: one more if that call failed, else as it was.
abbrev pub failed_after : (failed : Bool) → Option ℕ → Option ℕ
failed_after true failed = option_map counted failed
failed_after false failed = failed

-- The count of failed calls stayed, or one call failed and the answer says so.
abbrev pub TellsFailure : (told : Bool) → (before after : Option ℕ) → Type 0
TellsFailure told before after = (after ≡ before) ⊎ ((after ≡ failed_after true before) × (told ≡ true))

-- A count that was within its type stays there; a new device's is 0.
abbrev pub StaysCounted : ℕ → ℕ → Type 0
StaysCounted before after = before ≤ 2 ^ 64 - 1 → after ≤ 2 ^ 64 - 1
