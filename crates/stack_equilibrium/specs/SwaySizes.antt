-- How large the load that a body's own weight makes can grow within the limits of a model.
use Rattle.std.specs.Prelude.{ℤ, pos, negsuc}
use Rattle.stack_algebra.specs.IntegerOrder.{◌≼◌}
use Rattle.stack_polygon.specs.Sizes.{IsWithin}
use Rattle.stack_statics.specs.declared.wrench.Wrench.{Wrench}

-- a part of the sway is from -1,000 to 1,000
pub record IsShareOfWeight (z : ℤ) : Type 0 where
  pub least : negsuc 999 ≼ z
  pub most : z ≼ pos 1000

-- a wrench of at most the sway of a body of 32 corners: fewer than 31 triangles. Twice the area of a triangle in range
-- is at most 4 * 10^12, and its corners' arms are at most 4,000,000 together. The body's weight is within it as well
pub record IsOwnLoad (v : Wrench) : Type 0 where
  pub fx : IsWithin 31 12000000000000000000000 v.fx
  pub fy : IsWithin 31 12000000000000000000000 v.fy
  pub m : IsWithin 31 32000000000000000000000000000 v.m
