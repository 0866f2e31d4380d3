-- The text of a range: the line `range LEAST GREATEST`, each a factor in lowest terms or the word `unlimited`; the text
-- of the greatest side's certificate; the line `reversed`; and the text of the least side's. A collapse is its text
-- alone.
use Rattle.std.specs.Prelude.{ℕ, pos, neg_ℤ, List, ◌++◌, codes, ⊤}
use Rattle.stack_algebra.specs.IntegerOrder.{◌≺◌}
use Rattle.stack_certificate.specs.Certificate.{ForcesValue, collapses}
use Rattle.stack_certificate.specs.CertificateText.{CertificateFits, certificate_text}
use Rattle.stack_report.specs.declared.ratio.Ratio.{Ratio}
use Rattle.stack_report.specs.ForceTable.{lowest_ratio, ratio_text}
use Rattle.stack_range.specs.declared.types.Side.{Side}
use Rattle.stack_range.specs.declared.types.Side.TheVariants.{Greatest, Least}
use Rattle.stack_range.specs.CarriedFactors.{EndValue, at, unlimited, range_end_certificate}
use Rattle.stack_range.specs.Ranged.{RangeValue, collapsing, between}

-- the factor of an end; on the least side it is minus that of the reversed structure
abbrev pub end_factor : Side → ForcesValue → Ratio
end_factor Greatest f = lowest_ratio f.factor f.scale
end_factor Least f = lowest_ratio (neg_ℤ f.factor) f.scale

-- the text of an end's factor, or `unlimited`
abbrev pub range_end_text : Side → EndValue → List ℕ
range_end_text side (at f y) = ratio_text (end_factor side f)
range_end_text side (unlimited base ray) = codes "unlimited"

-- the first line of a range, with the factors of both ends
abbrev pub range_line : (low high : EndValue) → List ℕ
range_line low high = codes "range " ++ range_end_text Least low ++ codes " " ++ range_end_text Greatest high
    ++ codes "\n"

-- the whole text of a range
abbrev pub range_text : RangeValue → List ℕ
range_text (collapsing y) = certificate_text (collapses y)
range_text (between low high) =
    range_line low high ++ certificate_text (range_end_certificate high) ++ codes "reversed\n"
    ++ certificate_text (range_end_certificate low)

-- the scale of a factor is positive
abbrev pub HasScale : EndValue → Type 0
HasScale (at f y) = pos 0 ≺ f.scale
HasScale (unlimited base ray) = ⊤

-- an end that can be printed
pub record IsPrintable (e : EndValue) : Type 0 where
  pub scale : HasScale e
  pub fits : CertificateFits (range_end_certificate e)

-- both ends can be printed
pub record AreEnds (low high : EndValue) : Type 0 where
  pub least : IsPrintable low
  pub greatest : IsPrintable high

-- a range can be printed, as each that is found can
abbrev pub CanPrintRange : RangeValue → Type 0
CanPrintRange (collapsing y) = CertificateFits (collapses y)
CanPrintRange (between low high) = AreEnds low high
