-- What is due on standard output, by its meaning, and which bytes are that answer, with which verdict. A further kind
-- of answer is a further case of both.
use Rattle.std.specs.Prelude.{◌≡◌, ℕ, ◌≤◌, ◌<◌, ℤ, Bool, List, Ok, length}
use Rattle.stack_model.specs.Structure.{Structure}
use Rattle.stack_reader.specs.Reading.{structure_of}
use Rattle.stack_contact.specs.Surveyed.{Surveyed}
use Rattle.stack_certificate.specs.Certificate.{CertificateValue, stands, collapses, greatest, unbounded}
use Rattle.stack_certificate.specs.CertificateText.{IsCertificateText, text_bound}
use Rattle.stack_equilibrium.specs.declared.types.Question.{Question}
use Rattle.stack_equilibrium.specs.declared.types.Question.TheVariants.{Live}
use Rattle.stack_judge.specs.Judged.{IsJudged}
use Rattle.stack_report.specs.Summary.{summary_text}
use Rattle.stack_range.specs.Ranged.{RangeValue, collapsing, between, IsRange}
use Rattle.stack_range.specs.RangeText.{range_text}
use Rattle.stack_stages.specs.Staged.{Staged, falls, AreTrue, StandAndFall}
use Rattle.stack_stages.specs.StagesText.{stages_text}
use Rattle.stack_pairs.specs.Reaches.{RegionValue, collapse, points, RegionTells}
use Rattle.stack_pairs.specs.Directed.{ArePair}
use Rattle.stack_yield.specs.JudgedReaches.{RegionIsJudged}
use Rattle.stack_yield.specs.RegionText.{region_text}
use Rattle.stack_work.specs.Surveying.{greatest_file}
use Rattle.stack_lines.specs.declared.answer.Verdict.{Verdict}
use Rattle.stack_lines.specs.declared.answer.Verdict.TheVariants.{Affirmed, Denied}

-- A certificate that isn't a collapse affirms its question.
abbrev pub verdict_of : CertificateValue → Verdict
verdict_of (stands f) = Affirmed
verdict_of (collapses y) = Denied
verdict_of (greatest f y) = Affirmed
verdict_of (unbounded base rise) = Affirmed

-- A range that isn't a collapse affirms.
abbrev pub range_verdict : RangeValue → Verdict
range_verdict (collapsing y) = Denied
range_verdict (between low high) = Affirmed

-- A stage that falls denies.
abbrev pub stages_verdict : Staged → Verdict
stages_verdict (falls fs m) = Denied
stages_verdict _ = Affirmed

-- A region that isn't a collapse affirms.
abbrev pub region_verdict : RegionValue → Verdict
region_verdict (collapse y) = Denied
region_verdict (points rs) = Affirmed

-- Exactly these bytes, with this verdict; the certificate of this question of this survey; a document that describes
-- this structure and isn't too long to be read; the summary of the wall with this number, by its survey, its
-- certificate, and whether no number of the table and of the run is too wide for 64 bits; the range of this survey; the
-- outcome of the stages of this order of it; the region of these two loads of it, from 0 among all loads, in these
-- directions.
pub data Due : Type 0 where
  exactly : Verdict → List ℕ → Due
  certificate : Question → Surveyed → CertificateValue → Due
  document : Structure → Due
  summary : ℕ → Surveyed → CertificateValue → Bool → Due
  ranged : Surveyed → RangeValue → Due
  stages_due : Surveyed → List ℕ → Staged → Due
  region_due : Surveyed → (i j : ℕ) → List (ℤ × ℤ) → RegionValue → Due

-- It is true, and the bytes are its text.
pub record IsCertificateOf (q : Question) (v : Surveyed) (c : CertificateValue) (verdict : Verdict) (text : List ℕ)
    : Type 0 where
  pub judged : IsJudged q v c
  pub is_verdict : verdict ≡ verdict_of c
  pub is_text : IsCertificateText c text
  pub is_short : length text < text_bound

-- The certificate is true and answers the question about live loads, and the bytes are its summary.
pub record IsSummaryOf (number : ℕ) (v : Surveyed) (c : CertificateValue) (narrow : Bool) (verdict : Verdict)
    (text : List ℕ) : Type 0 where
  pub judged : IsJudged Live v c
  pub is_verdict : verdict ≡ Affirmed
  pub is_text : text ≡ summary_text number v c narrow

-- It says which factors are carried, and the bytes are its text.
pub record IsRangeOf (v : Surveyed) (r : RangeValue) (verdict : Verdict) (text : List ℕ) : Type 0 where
  pub holds : IsRange v r
  pub is_verdict : verdict ≡ range_verdict r
  pub is_text : text ≡ range_text r

-- It says truly which stages of the order stand, and the bytes are its text.
pub record AreStagesOf (v : Surveyed) (order : List ℕ) (x : Staged) (verdict : Verdict) (text : List ℕ) : Type 0 where
  pub are_true : AreTrue v order x
  pub stand_and_fall : StandAndFall v order x
  pub is_verdict : verdict ≡ stages_verdict x
  pub is_text : text ≡ stages_text x

-- It says truly which pairs of multiples of the two loads are carried, and the bytes are its text.
pub record IsRegionOf (v : Surveyed) (i j : ℕ) (ds : List (ℤ × ℤ)) (r : RegionValue) (verdict : Verdict)
    (text : List ℕ) : Type 0 where
  pub are_loads : ArePair v.structure i j
  pub tells : RegionTells v i j ds r
  pub judged : RegionIsJudged v i j r
  pub is_verdict : verdict ≡ region_verdict r
  pub is_text : text ≡ region_text r

-- A verdict and bytes are what is due.
abbrev pub IsAnswer : Due → Verdict → List ℕ → Type 0
IsAnswer (exactly v t) verdict text = (verdict ≡ v) × (text ≡ t)
IsAnswer (certificate q v c) verdict text = IsCertificateOf q v c verdict text
IsAnswer (document s) verdict text =
    (verdict ≡ Affirmed) × (structure_of text ≡ Ok s) × (length text ≤ greatest_file)
IsAnswer (summary number v c narrow) verdict text = IsSummaryOf number v c narrow verdict text
IsAnswer (ranged v r) verdict text = IsRangeOf v r verdict text
IsAnswer (stages_due v order x) verdict text = AreStagesOf v order x verdict text
IsAnswer (region_due v i j ds r) verdict text = IsRegionOf v i j ds r verdict text
