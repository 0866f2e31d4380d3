-- The single steps of the written check: a test with the reason that it gives where it fails, and a number
-- with the place that it gives where it is too wide.
use Rattle.std.specs.Prelude.{ℕ, ℤ, Bool, Result, Ok, Err, ⊤}
use Rattle.stack_statics.specs.declared.wrench.Wrench.{Wrench}
use Rattle.stack_equilibrium.specs.declared.types.SumWide.{SumWide}
use Rattle.stack_equilibrium.specs.declared.types.VelocityWide.{VelocityWide}
use Rattle.stack_equilibrium.specs.declared.types.PowerWide.{PowerWide}
use Rattle.stack_whole.specs.Demands.{unless}
use Rattle.stack_whole.specs.declared.whole.Wide.{Wide}
use Rattle.stack_whole.specs.declared.whole.Whole.{Whole}
use Rattle.stack_whole.specs.Whole.{whole}
use Rattle.stack_checker.specs.declared.types.Reason.{Reason}
use Rattle.stack_checker.specs.declared.types.CheckAt.{CheckAt}
use Rattle.stack_checker.specs.declared.types.CheckAt.TheVariants as places
use Rattle.stack_checker.specs.declared.stop.Stop.{Stop}
use Rattle.stack_checker.specs.declared.stop.Stop.TheVariants.{Rejected, TooWide}
use Rattle.stack_equilibrium.specs.declared.velocity.Gap.{Gap}

-- a test that is passed or ends the check with its reason
abbrev pub demand : Bool → Reason → Result ⊤ Stop
demand holds reason = unless holds (Rejected reason)

-- a number that is made, or ends the check at its place
abbrev pub made_at : Result Whole Wide → CheckAt → Result Whole Stop
made_at (Ok x) at = Ok x
made_at (Err e) at = Err (TooWide at)

-- the three sums of free block number b, or the place of the one that is too wide
abbrev pub sums_at : ℕ → Result Wrench SumWide → Result Wrench Stop
sums_at b (Ok w) = Ok w
sums_at b (Err e) = Err (TooWide (places.Balance b e.axis))

-- the opening and the slide of bearing k, or its place where a velocity is too wide
abbrev pub stopped_gap : ℕ → Result (ℤ × ℤ) VelocityWide → Result Gap Stop
stopped_gap k (Ok r) = Ok (record { opening = whole r.0; slide = whole r.1 })
stopped_gap k (Err e) = Err (TooWide (places.Resisted k))

-- a power, or its place where it is too wide
abbrev pub power_or_stop : Result ℤ PowerWide → Result Whole Stop
power_or_stop (Ok power) = Ok (whole power)
power_or_stop (Err e) = Err (TooWide places.Work)
