-- What making a table of forces gives, and what is known of a certificate that the written check accepts.
use Rattle.std.specs.Prelude.{◌≡◌, ℕ, ℤ, pos, List, ◌++◌, length, Option, None, Some, Result, Ok, Err, ⊤, Vec, String}
use Rattle.std.specs.Prelude.{string_bytes}
use Rattle.std.specs.declared.alloc.Global.{Global}
use Rattle.stack_algebra.specs.IntegerOrder.{◌≼◌, ◌≺◌}
use Rattle.stack_whole.specs.Whole.{IsFitting}
use Rattle.stack_contact.specs.Surveyed.{Surveyed}
use Rattle.stack_contact.specs.FreeBlocks.{frees_of}
use Rattle.stack_certificate.specs.Certificate.{ForcesValue, MotionValue, CertificateValue, stands, collapses}
use Rattle.stack_certificate.specs.Certificate.{greatest, unbounded}
use Rattle.stack_report.specs.declared.errors.ReportError.{ReportError}
use Rattle.stack_report.specs.declared.errors.ReportError.TheVariants.{TooWide, Memory}
use Rattle.stack_report.specs.ForceNumbers.{wide_index}
use Rattle.stack_equilibrium.specs.declared.force.Force.{Force}
use Rattle.stack_report.specs.declared.force_lines.ForceLine.{ForceLine}
use Rattle.stack_report.specs.ForceTable.{lowest_ratio, forces_text}

-- exactly this text if no number is too wide, or the index of the first that is. `Memory` may come at any time
abbrev pub Tables : Result (Vec ℕ Global) ReportError → Surveyed → CertificateValue → Type 0
Tables (Ok v) s c = (wide_index s c ≡ None) × (v.items ≡ forces_text s c)
Tables (Err (TooWide i)) s c = wide_index s c ≡ Some i
Tables (Err Memory) s c = ⊤

-- exactly these further lines behind a text if no number of them is too wide, or the index of the first that is
abbrev pub Adds : Result (String Global) ReportError → (text : List ℕ) → (wide : Option ℕ) → (more : List ℕ)
    → Type 0
Adds (Ok t) text wide more = (wide ≡ None) × (string_bytes t ≡ text ++ more)
Adds (Err (TooWide i)) text wide more = wide ≡ Some i
Adds (Err Memory) text wide more = ⊤

-- the line of bearing number k with this force over d
abbrev pub line_over : (d : ℤ) → ℕ → Force → ForceLine
line_over d k f = record { index = k; x = lowest_ratio f.x.value d; y = lowest_ratio f.y.value d }

-- a number that others are divided by
pub record IsScale (d : ℤ) : Type 0 where
  pub positive : pos 0 ≺ d
  pub fits : IsFitting d

-- a part for each bearing
abbrev pub HasParts : Surveyed → List (ℤ × ℤ) → Type 0
HasParts s parts = length parts ≡ length s.bearings

-- forces that carry loads: a part for each bearing, over a scale above 0, and a factor that isn't negative
pub record IsCarrying (s : Surveyed) (f : ForcesValue) : Type 0 where
  pub count : HasParts s f.parts
  pub scale : pos 0 ≺ f.scale
  pub factor : pos 0 ≼ f.factor

-- further forces: a part for each bearing, over a factor above 0
pub record IsRising (s : Surveyed) (r : ForcesValue) : Type 0 where
  pub count : HasParts s r.parts
  pub factor : pos 0 ≺ r.factor

-- a move for each free block
abbrev pub HasMoves : Surveyed → MotionValue → Type 0
HasMoves s y = length y ≡ length (frees_of s.structure.bodies)

-- each list has all its items, forces are over a number above 0, and the factor carried isn't negative
abbrev pub IsWhole : Surveyed → CertificateValue → Type 0
IsWhole s (stands f) = IsCarrying s f
IsWhole s (collapses y) = HasMoves s y
IsWhole s (greatest f y) = IsCarrying s f × HasMoves s y
IsWhole s (unbounded f r) = IsCarrying s f × IsRising s r
