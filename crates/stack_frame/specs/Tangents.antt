-- The tangent of a joint, as contracts see a frame.
use Rattle.std.specs.Prelude.{ℤ}

-- its parts to the right and upwards
pub record Tangent : Type 0 where
  pub tx : ℤ
  pub ty : ℤ
