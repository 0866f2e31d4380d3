-- The text of a region: the line `region COUNT`, and for each direction the line `dir M N reach X Y`, with X and Y as
-- fractions in lowest terms, and the line `half P Q R`; or the line `dir M N unlimited` alone. A collapse is the text
-- of its certificate alone.
use Rattle.std.specs.Prelude.{ℕ, ℤ, List, [], ◌∷◌, ◌++◌, codes, decimal, length, Option, Some, None, ⊤}
use Rattle.std.specs.Fmt.{signed_decimal}
use Rattle.stack_certificate.specs.Certificate.{collapses}
use Rattle.stack_certificate.specs.CertificateText.{CertificateFits, certificate_text}
use Rattle.stack_report.specs.declared.ratio.Ratio.{Ratio}
use Rattle.stack_report.specs.ForceTable.{ratio_text}
use Rattle.stack_pairs.specs.Reaches.{PointValue, HalfValue, ReachValue, RegionValue, collapse, points}

-- a coordinate as a fraction
abbrev pub ratio_of : ℤ × ℤ → Ratio
ratio_of x = record { num = x.0; den = x.1 }

-- both coordinates of a point, or that there is no end
abbrev pub distance_text : Option PointValue → List ℕ
distance_text None = codes "unlimited\n"
distance_text (Some p) = codes "reach " ++ ratio_text (ratio_of p.0) ++ codes " " ++ ratio_text (ratio_of p.1)
    ++ codes "\n"

-- the line of a direction
abbrev pub direction_line : ReachValue → List ℕ
direction_line r = codes "dir " ++ signed_decimal r.m ++ codes " " ++ signed_decimal r.n ++ codes " "
    ++ distance_text r.point

-- the numbers of a half-plane, with a space between two
unfoldable pub half_text : HalfValue → List ℕ
half_text h = signed_decimal h.0 ++ codes " " ++ signed_decimal h.1 ++ codes " " ++ signed_decimal h.2

-- the line of a half-plane, if there is one
abbrev pub half_line : Option HalfValue → List ℕ
half_line None = []
half_line (Some h) = codes "half " ++ half_text h ++ codes "\n"

-- the lines of a reach
abbrev pub reach_text : ReachValue → List ℕ
reach_text r = direction_line r ++ half_line r.half

-- the lines of all reaches of a list
abbrev pub reach_lines : List ReachValue → List ℕ
reach_lines [] = []
reach_lines (r ∷ rs) = reach_text r ++ reach_lines rs

-- the first line of a region, with the number of its directions
abbrev pub region_line : ℕ → List ℕ
region_line n = codes "region " ++ decimal n ++ codes "\n"

-- the whole text of a region
abbrev pub region_text : RegionValue → List ℕ
region_text (collapse y) = certificate_text (collapses y)
region_text (points rs) = region_line (length rs) ++ reach_lines rs

-- a region can be printed, as each that is found can
abbrev pub CanPrintRegion : RegionValue → Type 0
CanPrintRegion (collapse y) = CertificateFits (collapses y)
CanPrintRegion (points rs) = ⊤
