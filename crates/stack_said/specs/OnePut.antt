-- How often one run puts on its streams, if these tell it: an answer goes out in one piece, and so does the line of a
-- refusal. So nothing is put twice, in pieces or tried again.
use Rattle.std.specs.Prelude.{◌≡◌, ◌≢◌, ℕ, ◌+◌, ◌^◌, ◌-◌, ◌<◌, ◌≤◌, ◌⊎◌, Some, nat_lt, if◌then◌else◌}
use Rattle.stack_outside.specs.Seen.{StreamSeen}

-- A count stops at 2^64 - 1. Up to here it has room for the calls of one run.
abbrev pub greatest_start : ℕ
greatest_start = 2 ^ 64 - 4

-- Once on the output if the run answered, or if the output failed, status 10; if it refused otherwise, never.
abbrev pub PutsAnswer : (status : ℕ) → (out : StreamSeen) → Type 0
PutsAnswer status out = (n : ℕ) → out.calls ≡ Some n → n ≤ greatest_start →
    ((out.calls_after ≡ Some (n + 1)) × ((status < 2) ⊎ (status ≡ 10)))
    ⊎ ((out.calls_after ≡ Some n) × (2 ≤ status) × (status ≢ 10))

-- Never on the error stream if the run answered, and once if it refused.
abbrev pub PutsLine : (status : ℕ) → (err : StreamSeen) → Type 0
PutsLine status err = (n : ℕ) → err.calls ≡ Some n → n ≤ greatest_start →
    err.calls_after ≡ Some (if nat_lt status 2 then n else n + 1)
