-- Every range that is told can be printed.
use Rattle.stack_contact.specs.Surveyed.{Surveyed}
use Rattle.stack_equilibrium.specs.declared.types.Question.TheVariants.{Live}
use Rattle.stack_equilibrium.specs.Truth.{IsTrueCertificate}
use Rattle.stack_judge.specs.Judged.{IsJudged}
use Rattle.stack_range.specs.Reversed.{reversed_survey}
use Rattle.stack_range.specs.CarriedFactors.{EndValue, at, unlimited, range_end_certificate}
use Rattle.stack_range.specs.Ranged.{RangeValue, collapsing, between, IsRange}
use Rattle.stack_range.specs.RangeText.{HasScale, IsPrintable, CanPrintRange}

-- the scale of a true factor is positive
has_scale : (v : Surveyed) (e : EndValue) → IsTrueCertificate v (range_end_certificate e) → HasScale e
has_scale v (at f y) h = h.loaded.scale_positive
has_scale v (unlimited base ray) h = tt

-- an end with a judged certificate can be printed
one : (v : Surveyed) (e : EndValue) → IsJudged Live v (range_end_certificate e) → IsPrintable e
one v e h = record { scale = has_scale v e h.holds; fits = h.fits }

-- a range that is told can be printed: both ends, or a collapse
pub printable : (v : Surveyed) (r : RangeValue) → IsRange v r → CanPrintRange r
printable v (collapsing y) h = h.fits
printable v (between low high) h = record {
  least = one (reversed_survey v) low h.least_holds;
  greatest = one v high h.greatest_holds;
}
