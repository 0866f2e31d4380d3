-- What the certificates and the numbers of a region are: each certificate is judged, so it is true of its directed
-- survey and accepted; and all numbers fit 128 bits.
use Rattle.std.specs.Prelude.{ℕ, Option, Some, None, ⊤}
use Rattle.std.specs.List.{AllByRecursion}
use Rattle.stack_whole.specs.Whole.{IsFitting}
use Rattle.stack_contact.specs.Surveyed.{Surveyed}
use Rattle.stack_certificate.specs.Certificate.{collapses}
use Rattle.stack_equilibrium.specs.declared.types.Question.TheVariants.{Live}
use Rattle.stack_judge.specs.Judged.{IsJudged}
use Rattle.stack_pairs.specs.Directed.{directed_survey}
use Rattle.stack_pairs.specs.Reaches.{PointValue, HalfValue, ReachValue, RegionValue, collapse, points}

-- the numerators and denominators of a point are at most 2^127 - 1 in size
abbrev pub PointFits : Option PointValue → Type 0
PointFits None = ⊤
PointFits (Some p) = (IsFitting p.0.0 × IsFitting p.0.1) × (IsFitting p.1.0 × IsFitting p.1.1)

-- and so are the numbers of a half-plane
abbrev pub HalfFits : Option HalfValue → Type 0
HalfFits None = ⊤
HalfFits (Some h) = IsFitting h.0 × IsFitting h.1 × IsFitting h.2

-- the certificate of a reach is judged, of the survey towards its direction, and the numbers of its point and of its
-- half-plane fit
pub record ReachIsJudged (s : Surveyed) (i j : ℕ) (r : ReachValue) : Type 0 where
  pub judged : IsJudged Live (directed_survey s i j r.m r.n) r.certificate
  pub point_fits : PointFits r.point
  pub half_fits : HalfFits r.half

-- the certificate of each reach of a region is judged, and the numbers of its point and its half-plane fit; a collapse
-- is judged for the survey as it is, with all its live loads and its sway
abbrev pub RegionIsJudged : Surveyed → (i j : ℕ) → RegionValue → Type 0
RegionIsJudged s i j (collapse y) = IsJudged Live s (collapses y)
RegionIsJudged s i j (points rs) = AllByRecursion (ReachIsJudged s i j) rs
