-- The forces that a cone of friction admits, and the numbers of the test that are too wide for 128 bits.
use Rattle.std.specs.Prelude.{◌⊎◌, ℤ, pos, ◌*ℤ◌, int_le, int_lt, Bool, false, Result, Ok, if◌then◌else◌}
use Rattle.stack_algebra.specs.IntegerOrder.{◌≼◌, abs}
use Rattle.stack_algebra.specs.Steps.{◌>>=◌}
use Rattle.stack_whole.specs.declared.whole.Wide.{Wide}
use Rattle.stack_whole.specs.Whole.{IsTooWide, made}
use Rattle.stack_frame.specs.declared.cone.Cone.{Cone}
use Rattle.stack_frame.specs.Cones.{IsCoefficient}

-- the force pushes with a along the normal, and stays within the cone with b along the tangent
pub record IsAdmitted (c : Cone) (a b : ℤ) : Type 0 where
  pub pushes : pos 0 ≼ a
  pub within : c.q *ℤ abs b ≼ c.p *ℤ a

-- the force pushes, and a number of the test is too wide
pub record IsTestTooWide (c : Cone) (a b : ℤ) : Type 0 where
  pub pushes : pos 0 ≼ a
  pub is_too_wide : IsTooWide (c.p *ℤ a) ⊎ (IsTooWide (abs b) ⊎ IsTooWide (c.q *ℤ abs b))

-- where the coefficient is within its limits, q is at least 1, and the size of b is too wide only with q times it
abbrev pub SizeIsTooWideWithItsProduct : Type 0
SizeIsTooWideWithItsProduct = (c : Cone) (a b : ℤ) → IsCoefficient c → IsTestTooWide c a b →
    IsTooWide (c.p *ℤ a) ⊎ IsTooWide (c.q *ℤ abs b)

-- the numbers of the test in their order, and the test
unfoldable pub written_test : Cone → ℤ → ℤ → Result Bool Wide
written_test c a b = do
  most ← made (c.p *ℤ a)
  tangential ← made (abs b)
  least ← made (c.q *ℤ tangential.value)
  Ok (int_le least.value most.value)

-- no number is made of a force that pulls
abbrev pub written_admission : Cone → ℤ → ℤ → Result Bool Wide
written_admission c a b = if int_lt a (pos 0) then Ok false else written_test c a b
