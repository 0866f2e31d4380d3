-- A number of a judgement that is too wide has status 7.
use Rattle.std.proofs.Common.{◌≡◌, refl, ℕ}
use Rattle.stack_model.specs.Structure.{Structure}
use Rattle.stack_judge.specs.declared.types.JudgePlace.{JudgePlace}
use Rattle.stack_judge.specs.declared.types.JudgePlace.TheVariants as places
use Rattle.stack_yield.specs.declared.types.RegionPlace.{RegionPlace}
use Rattle.stack_yield.specs.declared.types.RegionPlace.TheVariants as region_places
use Rattle.stack_lines.specs.declared.refusal.Within.{Within}
use Rattle.stack_lines.specs.Refusals.{fault_status}
use Rattle.stack_work.specs.Judging.{wide_within}
use Rattle.stack_work.specs.Yielding.{wide_toward}

-- a number of a judgement that is too wide has status 7
pub wide_is_seven : (w : Within) (s : Structure) (p : JudgePlace) → fault_status (wide_within w s p) ≡ 7
wide_is_seven w s (places.Run p) = refl
wide_is_seven w s (places.End p) = refl
wide_is_seven w s (places.Check p) = refl

-- so has one of a direction
pub toward_is_seven : (n : ℕ) (s : Structure) (p : RegionPlace) → fault_status (wide_toward n s p) ≡ 7
toward_is_seven n s (region_places.Judge p) = wide_is_seven _ s p
toward_is_seven n s region_places.First = refl
toward_is_seven n s region_places.Second = refl
toward_is_seven n s region_places.Point = refl
