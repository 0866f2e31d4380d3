-- Certificates as values. What the contracts see of a Certificate.
use Rattle.std.specs.Prelude.{ℤ, List}
use Rattle.stack_certificate.specs.declared.types.Forces.{Forces}
use Rattle.stack_certificate.specs.declared.types.Motion.{Motion}
use Rattle.stack_certificate.specs.declared.types.Certificate.{Certificate}
use Rattle.stack_certificate.specs.declared.types.Certificate.TheVariants.{Stands, Collapses, Greatest, Unbounded}

-- a scale, a factor, and for each bearing a part along its normal and one along its tangent
pub record ForcesValue : Type 0 where
  pub scale : ℤ
  pub factor : ℤ
  pub parts : List (ℤ × ℤ)

-- for each free block the velocity of its first corner, along x and along y, and its turning rate
abbrev pub MotionValue : Type 0
MotionValue = List (ℤ × ℤ × ℤ)

-- what each form has: forces; a motion; forces and a motion; forces and further ones without end
pub data CertificateValue : Type 0 where
  stands : ForcesValue → CertificateValue
  collapses : MotionValue → CertificateValue
  greatest : ForcesValue → MotionValue → CertificateValue
  unbounded : ForcesValue → ForcesValue → CertificateValue

-- the value of forces, without where they lie in memory
abbrev pub forces_view : Forces → ForcesValue
forces_view f = record { scale = f.scale; factor = f.factor; parts = f.parts.items }

-- the moves of a motion, without where they lie in memory
abbrev pub motion_view : Motion → MotionValue
motion_view m = m.moves.items

-- the value of a certificate of each form
abbrev pub certificate_view : Certificate → CertificateValue
certificate_view (Stands f) = stands (forces_view f)
certificate_view (Collapses m) = collapses (motion_view m)
certificate_view (Greatest f m) = greatest (forces_view f) (motion_view m)
certificate_view (Unbounded f r) = unbounded (forces_view f) (forces_view r)
